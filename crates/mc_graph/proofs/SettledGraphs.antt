-- The graph of a pattern by its links and labels.
use Rattle.std.proofs.Common.{◌≡◌, ℕ, zero, suc, ◌+◌, ◌*◌, ◌%◌, ◌<◌, ◌≤◌, Bool, false, map, take}
use Rattle.std.proofs.Common.{drop, length, List, [], ◌∷◌, ◌++◌, Some, None, refl, sym, ◌∙◌, ap}
use Rattle.std.proofs.Common.{ap₂, arith, slice_index_or, IsTrue, cond}
use Rattle.std.specs.Prelude.{Option, All, option_map}
use Rattle.std.proofs.lemmas.Bool.{cases_lt, ne_eqb, false≢true}
use Rattle.std.proofs.lemmas.List.{length-map, get_or_past}
use Rattle.std.proofs.lemmas.List.Elements.{All-nil, All-cons}
use Rattle.std.proofs.lemmas.Nat.{mod_below}
use Rattle.std.proofs.lemmas.Option.{unwrap_or-slice_get}
use mathlib.Core.Logic.{inl, inr}
use Rattle.mc_model.specs.Numbers.{numbers_from, pairs_below}
use Rattle.mc_model.specs.Steps.{is_permitted}
use Rattle.mc_model.specs.Pattern.{Command, Prep, Ent, Meas, FixX, FixZ, Pattern}
use Rattle.mc_model.specs.Valid.{prepared, measured, FitsBehind, IsValidPattern}
use Rattle.mc_model.specs.StandardForm.{is_edge}
use Rattle.mc_model.specs.Graph.{OpenGraph, edge, size, base_angle, angle_in, turned_angle}
use Rattle.mc_model.specs.Graph.{not_fixed, constants_at, graph_of}
use Rattle.mc_model.specs.Phase.{measured_angle}
use Rattle.mc_model.proofs.ValidLemmas.{prepared-append}
use Rattle.mc_pattern.specs.Rules.{operands, is_loop}
use Rattle.mc_pattern.specs.declared.command.Command as code
use Rattle.mc_pattern.specs.Commands.{plain_command}
use Rattle.mc_graph.proofs.MappedReads.{read_mapped}
use Rattle.mc_graph.specs.declared.label.Label.{Label}
use Rattle.mc_graph.specs.Links.{linked, AreLinks}
use Rattle.mc_graph.specs.Graphs.{plain_fixed, graph_by, IsGraph, IsStored}
use Rattle.mc_graph.specs.Sums.{no_label, AreSettled}
use Rattle.mc_graph.proofs.PatternGraphs.{angle_of_vertex, graph_is_open}
use Rattle.mc_graph.proofs.PairLists.{pairs_below-same}
use Rattle.mc_graph.proofs.StoredGraphs.{rows_of, rows_edges, stored_by}

-- ---- places of a list

pub split_place : {A : Type 0} (xs : List A) (i : ℕ) (x : A) → i < length xs →
    x ≡ slice_index_or xs i x → xs ≡ take i xs ++ (x ∷ drop (suc i) xs)
split_place [] i x l e = absurd (omega arith)
split_place (y ∷ ys) zero x l e = ap (λ (z : _). z ∷ ys) (sym e)
split_place (y ∷ ys) (suc i) x l e =
    ap (λ (zs : List _). y ∷ zs) (split_place ys i x (omega arith) e)

-- the operands of a command that may stand here are qubits, and differ
below_by : (inputs n : ℕ) (before : List Command) (c : Command) →
    FitsBehind inputs before c → inputs + prepared before ≤ n → All (λ q. q < n) (operands c)
below_by inputs n before (Prep q) fits l = All-nil (λ k. k < n)
below_by inputs n before (Ent q r) fits l =
    let a = fits.0.is_there in
    let b = fits.1.is_there in
    All-cons (λ k. k < n) q (r ∷ []) (omega arith)
    (All-cons (λ k. k < n) r [] (omega arith) (All-nil (λ k. k < n)))
below_by inputs n before (Meas q a s t) fits l =
    let b = fits.0.is_there in All-cons (λ k. k < n) q [] (omega arith) (All-nil (λ k. k < n))
below_by inputs n before (FixX q s) fits l =
    let b = fits.0.is_there in All-cons (λ k. k < n) q [] (omega arith) (All-nil (λ k. k < n))
below_by inputs n before (FixZ q s) fits l =
    let b = fits.0.is_there in All-cons (λ k. k < n) q [] (omega arith) (All-nil (λ k. k < n))

apart_by : (inputs : ℕ) (before : List Command) (c : Command) →
    FitsBehind inputs before c → is_loop c ≡ false
apart_by inputs before (Prep q) fits = refl
apart_by inputs before (Ent q r) fits = ne_eqb q r fits.2
apart_by inputs before (Meas q a s t) fits = refl
apart_by inputs before (FixX q s) fits = refl
apart_by inputs before (FixZ q s) fits = refl

-- a command at its place in a valid pattern
pub record StandsAt (p : Pattern) (before : List Command) (c : Command) : Type 0 where
  pub fits : FitsBehind p.inputs before c
  pub below : All (λ q. q < length p.names) (operands c)
  pub apart : is_loop c ≡ false

pub stands_at : (p : Pattern) (before : List Command) (c : Command) (behind : List Command) →
    IsValidPattern p → p.commands ≡ before ++ (c ∷ behind) → StandsAt p before c
stands_at p before c behind v e =
    let fits = v.commands.at before c behind e in
    let more = prepared-append before (c ∷ behind) in
    let qubits : length p.names ≡ p.inputs + prepared (before ++ (c ∷ behind)) =
    v.qubits ∙ ap (λ (cs : List Command). p.inputs + prepared cs) e in
    record {
      fits = fits;
      below = below_by p.inputs (length p.names) before c fits (omega arith);
      apart = apart_by p.inputs before c fits;
    }

take_more : {A : Type 0} (xs : List A) (i : ℕ) (x : A) → i < length xs →
    x ≡ slice_index_or xs i x → take (i + 1) xs ≡ take i xs ++ (x ∷ [])
take_more [] i x l e = absurd (omega arith)
take_more (y ∷ ys) zero x l e = ap (λ (z : _). z ∷ []) (sym e)
take_more (y ∷ ys) (suc i) x l e =
    let next : suc i + 1 ≡ suc (i + 1) = omega arith in
    ap (λ (k : ℕ). take k (y ∷ ys)) next
    ∙ ap (λ (zs : List _). y ∷ zs) (take_more ys i x (omega arith) e)

-- the command at a place of a valid pattern
pub record IsAtPlace (p : Pattern) (i : ℕ) (c : Command) : Type 0 where
  pub stands : StandsAt p (take i p.commands) c
  pub more : take (i + 1) p.commands ≡ take i p.commands ++ (c ∷ [])

pub at_place : {h : ℕ} (p : Pattern) (items : List (code.Command h)) (i : ℕ)
    (c : code.Command h) → IsValidPattern p → map plain_command items ≡ p.commands →
    i < length items → c ≡ slice_index_or items i c → IsAtPlace p i (plain_command c)
at_place p items i c v same l e =
    let cs : List Command = p.commands in
    let long : length cs ≡ length items = ap length (sym same) ∙ length-map items plain_command in
    let within : i < length cs = omega arith in
    let read : plain_command c ≡ slice_index_or cs i (plain_command c) =
    sym (ap (λ (ds : List Command). slice_index_or ds i (plain_command c)) (sym same)
    ∙ read_mapped plain_command items i c (plain_command c) l e) in
    record {
      stands =
          stands_at p (take i cs) (plain_command c) (drop (suc i) cs) v
          (split_place cs i (plain_command c) within read);
      more = take_more cs i (plain_command c) within read;
    }

-- ---- the graph

map_numbered : {A B : Type 0} (f : A → B) (h : ℕ → B) (xs : List A) (q : ℕ) (d : A) →
    ((k : ℕ) → k < length xs → f (slice_index_or xs k d) ≡ h (q + k)) →
    map f xs ≡ map h (numbers_from q (length xs))
map_numbered f h [] q d same = refl
map_numbered f h (x ∷ xs) q d same =
    let first : q + 0 ≡ q = omega arith in
    ap₂ (λ (y : _) (ys : List _). y ∷ ys) (same 0 (omega arith) ∙ ap h first)
    (map_numbered f h xs (suc q) d (λ k l.
    let next : q + suc k ≡ suc q + k = omega arith in same (suc k) (omega arith) ∙ ap h next))

mapped : {A B : Type 0} (f : A → B) (h : ℕ → B) (xs : List A) (n : ℕ) (d : A) → length xs ≡ n →
    ((k : ℕ) → k < n → f (slice_index_or xs k d) ≡ h k) →
    map f xs ≡ map h (numbers_from 0 n)
mapped f h xs n d long same =
    map_numbered f h xs 0 d (λ k l.
    let low : k ≡ 0 + k = omega arith in same k (omega arith) ∙ ap h low)
    ∙ ap (λ (m : ℕ). map h (numbers_from 0 m)) long

edges_linked : (links : List Bool) (cs : List Command) (n : ℕ) →
    ((i j : ℕ) → linked links i j ≡ is_edge cs i j) →
    pairs_below edge (linked links) n n ≡ pairs_below edge (is_edge cs) n n
edges_linked links cs n pairs = pairs_below-same edge (linked links) (is_edge cs) n (λ i j a b. pairs i j)

pub graph_is : (half : ℕ) (p : Pattern) (links : List Bool) (labels : List (Label half)) →
    ((i j : ℕ) → linked links i j ≡ is_edge p.commands i j) →
    AreSettled (length p.names) p.commands labels →
    graph_by p.names p.inputs p.outputs (rows_of links (length p.names)) labels ≡ graph_of half p
unfolding graph_of
graph_is half p links labels pairs h =
    let n : ℕ = length p.names in
    rw (
      rows_edges links n ∙ edges_linked links p.commands n pairs,
      mapped (λ (l : Label half). l.angle)
          (λ q. option_map (turned_angle half p.commands q) (angle_in p.commands q))
          labels n no_label h.long h.angle,
      mapped (λ (l : Label half). plain_fixed l.fixed)
          (λ q. cond (measured p.commands q) not_fixed (constants_at p.commands q))
          labels n no_label h.long h.fixed,
    ) refl

turned_within : (half : ℕ) (o : Option ℕ) (x z : Bool) (a : ℕ) → 0 < half →
    option_map (λ b. measured_angle half b x z % (2 * half)) o ≡ Some a → a < 2 * half
turned_within half None x z a positive e = absurd (cc e)
turned_within half (Some b) x z a positive e =
    let same : measured_angle half b x z % (2 * half) ≡ a = cc e in
    let turn : ℕ = 2 * half in
    let some : 0 < turn = omega arith in
    let within : measured_angle half b x z % turn < turn = mod_below (measured_angle half b x z) turn some in
    omega arith

past_angles : (g : OpenGraph) (v a : ℕ) → length g.angles ≤ v → base_angle g v ≡ Some a → ⊥
past_angles g v a past e =
    absurd (cc (sym (get_or_past g.angles v None past) ∙ sym (unwrap_or-slice_get g.angles v None) ∙ e))

positive_half : (half : ℕ) → IsTrue (is_permitted half) → 0 < half
positive_half zero h = absurd (false≢true h)
positive_half (suc n) h = omega arith

graph_size : (half : ℕ) (p : Pattern) → size (graph_of half p) ≡ length p.names
unfolding graph_of
graph_size half p = refl

pub graph_is_graph : (half : ℕ) (p : Pattern) → IsValidPattern p → IsTrue (is_permitted half) →
    IsGraph half (graph_of half p)
graph_is_graph half p v permitted =
    let open_graph = graph_is_open half p v in
    record {
      open_graph = open_graph;
      angles = λ q a e. elim (cases_lt q (length p.names)) [
        | inl l ↦
            turned_within half (angle_in p.commands q) _ _ a (positive_half half permitted)
            (sym (angle_of_vertex half p q l) ∙ e)
        | inr l ↦
            absurd (past_angles (graph_of half p) q a
            (rw (open_graph.angles, graph_size half p) l) e)
      ];
      permitted = permitted;
    }

pub graph_stored : (half : ℕ) (p : Pattern) (links : List Bool) → IsValidPattern p →
    IsTrue (is_permitted half) → AreLinks links →
    ((i j : ℕ) → linked links i j ≡ is_edge p.commands i j) →
    IsStored half (graph_of half p) (rows_of links (length p.names))
unfolding graph_of
graph_stored half p links v permitted are pairs =
    stored_by half (graph_of half p) links are
    (sym (edges_linked links p.commands (length p.names) pairs))
    (graph_is_graph half p v permitted)
