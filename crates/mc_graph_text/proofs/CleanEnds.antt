-- Nothing is against the line of the outputs and those behind it.
use Rattle.std.proofs.Common.{◌≡◌, ℕ, zero, suc, ◌+◌, ◌<◌, ◌≤◌, List, [], ◌∷◌, ◌++◌, Bool, true}
use Rattle.std.proofs.Common.{false, ◌&&◌, ◌||◌, Option, Some, None, length, map, codes, refl, sym}
use Rattle.std.proofs.Common.{ap, subst}
use Rattle.std.proofs.Common.{ap₂, ◌∙◌, append_assoc, arith, cond, nat_eq, count_by, inl, inr}
use Rattle.std.specs.Prelude.{is_some, is_none}
use Rattle.std.specs.List.{flat_map, list_all}
use Rattle.std.proofs.lemmas.Bool.{lt-ltb, le-ltb, cases_Bool, eq-eqb, true≢false}
use Rattle.std.proofs.lemmas.List.{append-nil, map-append}
use Rattle.mc_model.specs.Names.{Name, AreNames, is_held}
use Rattle.mc_model.specs.Numbers.{numbers_from, numbers_where, is_member, ListsOnce}
use Rattle.mc_model.specs.Graph.{OpenGraph, Fixed, size, base_angle, fixed_at, not_fixed}
use Rattle.mc_model.specs.Graph as graph
use Rattle.mc_model.proofs.NumberLists.{numbers_where-last, count-first, count-append, member_once}
use Rattle.mc_write.specs.Named.{name_at}
use Rattle.mc_text.specs.Judged.{Lines}
use Rattle.mc_text.proofs.Clean.{CleanWords, last}
use Rattle.mc_graph.specs.Graphs.{IsGraph}
use Rattle.mc_graph.proofs.ListedNumbers.{member-where}
use Rattle.mc_graph.proofs.OutputAngles.{output_without_angle}
use Rattle.mc_graph_text.specs.Roles.{output, fixed_x, fixed_z, is_joining}
use Rattle.mc_graph_text.specs.Value.{Pair, Spelled, spelled_at}
use Rattle.mc_graph_text.specs.Judge.{angled, is_settled, has_fixing, graph_rules}
use Rattle.mc_graph_text.specs.Canonical.{fixed_lines, has_fixed}
use Rattle.mc_graph_text.proofs.Printing.{some_there}
use Rattle.mc_graph_text.proofs.RisingPairs.{all_front, all_at}
use Rattle.mc_graph_text.proofs.NamedNumbers.{known, held-numbers}
use Rattle.mc_graph_text.proofs.SpelledLines.{IsAt, some_of, both, next_at, takes_inner, takes_late}
use Rattle.mc_graph_text.proofs.SpelledLines.{spelled_here, begins_inner, begins_late, judged}
use Rattle.mc_graph_text.proofs.SpelledLines.{lacking, Reads, reads_more}
use Rattle.mc_graph_text.proofs.CleanLines.{role_at, no_pair, has_angle, angled_to, held_angled}
use Rattle.mc_graph_text.proofs.CleanLines.{where_below, still}

-- ---- outputs

some_not_none : (o : Option ℕ) → is_none o ≡ true → is_some o ≡ false
some_not_none None e = refl
some_not_none (Some a) e = absurd (cc e)

-- an output has no angle
output_bare : (half : ℕ) (g : OpenGraph) (v : ℕ) → IsGraph half g → v < size g →
    graph.is_output g v ≡ true → has_angle g v ≡ false
output_bare half g v h lt e =
    some_not_none (base_angle g v) (output_without_angle g v h.open_graph lt ∙ e)

among : (xs : List ℕ) (q : ℕ) (ys : List ℕ) → is_member (xs ++ q ∷ ys) q ≡ true
among [] q ys = rw (eq-eqb q q refl) refl
among (x ∷ xs) q ys = or_right (nat_eq q x) (is_member (xs ++ q ∷ ys) q) (among xs q ys)
  where
    or_right : (a b : Bool) → b ≡ true → (a || b) ≡ true
    or_right true b e = refl
    or_right false b e = e

at_most_one : (b : Bool) → cond b 1 0 ≤ 1
at_most_one true = omega arith
at_most_one false = omega arith

-- a number that is listed once is not among those before it
not_before : (n : ℕ) (p : ℕ → Bool) (done : List ℕ) (q : ℕ) (qs : List ℕ) →
    ListsOnce n p (done ++ q ∷ qs) → q < n → is_member done q ≡ false
not_before n p done q qs h lt =
    let most = at_most_one (p q) in
    let whole = h.once q lt in
    let parts = count-append q done (q ∷ qs) in
    let here = count-first q q qs in
    let unit : ℕ = 1 in
    let same : cond (nat_eq q q) 1 0 ≡ unit = rw (eq-eqb q q refl) refl in
    let none : count_by (nat_eq q) done ≡ 0 = omega (arith, most, whole, parts, here, same) in
    member_once done q false none

spelled_outputs : (list : List Name) →
    spelled_at [] (codes "out" ∷ list) ≡ some_of [] [] [] [] list [] []
spelled_outputs list =
    rw (no_pair is_joining (codes "out") list refl) refl

-- behind the outputs' line, or within it
with_outputs : (names ins : List Name) (es angles : List Pair) (list : List Name) →
    both (some_of names ins es angles [] [] []) (some_of [] [] [] [] list [] [])
    ≡ some_of names ins es angles list [] []
with_outputs names ins es angles list =
    rw (append-nil names, append-nil ins, append-nil es, append-nil angles) refl

outputs_here : (before : Lines) (names ins : List Name) (es angles : List Pair) (list : List Name) →
    spelled_at before [] ≡ some_of names ins es angles [] [] [] →
    spelled_at before (codes "out" ∷ list) ≡ some_of names ins es angles list [] []
outputs_here before names ins es angles list is =
    spelled_here before (codes "out" ∷ list)
    ∙ ap₂ both is (spelled_outputs list)
    ∙ with_outputs names ins es angles list

list_all_names : (names : List Name) (p : Name → Bool) →
    ((v : ℕ) → v < length names → p (name_at names v) ≡ true) → list_all p names ≡ true
list_all_names [] p each = refl
list_all_names (n ∷ names) p each =
    ap₂ (λ (a b : Bool). a && b) (each 0 (omega arith))
    (list_all_names names p (λ v lt. each (suc v) (omega arith)))

angle_or_output : (o : Option ℕ) → (is_some o || is_none o) ≡ true
angle_or_output None = refl
angle_or_output (Some a) = refl

-- each vertex has an angle or is listed
settled : (half : ℕ) (g : OpenGraph) (ins : List Name) (es : List Pair) (v : ℕ) → IsGraph half g →
    v < size g →
    is_settled
    (some_of g.names ins es (angled_to g (size g)) (map (name_at g.names) g.outputs) [] [])
    (name_at g.names v) ≡ true
settled half g ins es v h lt =
    let valid = h.open_graph.names in
    ap₂ (λ (a b : Bool). a || b)
    (held_angled g (size g) v valid (omega arith) lt
    ∙ ap (λ (b : Bool). b && has_angle g v) (lt-ltb v (size g) lt))
    (held-numbers g.names g.outputs v valid.distinct h.open_graph.outputs.below lt
    ∙ sym (output_without_angle g v h.open_graph lt))
    ∙ angle_or_output (base_angle g v)

outputs_words : (version half : ℕ) (g : OpenGraph) (before : Lines) (ins : List Name)
    (es : List Pair) (done qs : List ℕ) → IsGraph half g → g.outputs ≡ done ++ qs →
    spelled_at before [] ≡ some_of g.names ins es (angled_to g (size g)) [] [] [] →
    CleanWords (graph_rules version) before (codes "out" ∷ map (name_at g.names) done)
    (map (name_at g.names) qs)
outputs_words version half g before ins es done [] h all is =
    let list = map (name_at g.names) g.outputs in
    let s = some_of g.names ins es (angled_to g (size g)) list [] [] in
    let whole : done ≡ g.outputs = sym (all ∙ append-nil done) in
    let clean = lacking version before (codes "out" ∷ list) s output
    (outputs_here before g.names ins es (angled_to g (size g)) list is)
    (role_at before (codes "out") list)
    (rw (list_all_names g.names (is_settled s) (λ v lt. settled half g ins es v h lt)) refl) in
    rw whole clean
outputs_words version half g before ins es done (q ∷ qs) h all is =
    let names = g.names in
    let valid = h.open_graph.names in
    let list = map (name_at names) done in
    let s = some_of names ins es (angled_to g (size g)) list [] [] in
    let name = name_at names q in
    let once : ListsOnce (size g) (λ v. is_none (base_angle g v)) (done ++ q ∷ qs) =
    rw (← all) h.open_graph.outputs in
    let lt : q < size g = all_at (λ k. k < size g) done q qs once.below in
    let listed : graph.is_output g q ≡ true = rw all (among done q qs) in
    let bare : is_held (angled s) name ≡ false =
    held_angled g (size g) q valid (omega arith) lt
    ∙ ap₂ (λ (a b : Bool). a && b) (lt-ltb q (size g) lt) (output_bare half g q h lt listed) in
    let free : is_held list name ≡ false =
    held-numbers names done q valid.distinct
    (all_front (λ k. k < size g) done (q ∷ qs) once.below) lt
    ∙ not_before (size g) (λ v. is_none (base_angle g v)) done q qs once lt in
    let next : (done ++ q ∷ []) ++ qs ≡ done ++ (q ∷ qs) = append_assoc done (q ∷ []) qs in
    let rest = outputs_words version half g before ins es (done ++ q ∷ []) qs h (all ∙ sym next) is
    in (
      judged version before (codes "out" ∷ list) s output name
          (outputs_here before names ins es (angled_to g (size g)) list is)
          (role_at before (codes "out") list)
          (rw (still s name (known names q valid lt) bare, free) refl),
      rw (map-append (name_at names) done (q ∷ [])) at rest,
    )

pub outputs_clean : (version half : ℕ) (g : OpenGraph) (before : Lines) (ins : List Name)
    (es : List Pair) → IsGraph half g →
    IsAt takes_inner before (some_of g.names ins es (angled_to g (size g)) [] [] []) →
    CleanWords (graph_rules version) before [] (codes "out" ∷ map (name_at g.names) g.outputs)
outputs_clean version half g before ins es h is = (
  begins_inner version before (some_of g.names ins es (angled_to g (size g)) [] [] [])
      (codes "out") is refl,
  outputs_words version half g before ins es [] g.outputs h refl is.spelled,
)

pub outputs_at : (before : Lines) (names ins : List Name) (es angles : List Pair)
    (list : List Name) →
    IsAt takes_inner before (some_of names ins es angles [] [] []) →
    IsAt takes_late (before ++ (codes "out" ∷ list) ∷ []) (some_of names ins es angles list [] [])
unfolding takes_late
outputs_at before names ins es angles list is =
    next_at takes_late before (codes "out" ∷ list) (some_of names ins es angles [] [] [])
    (some_of names ins es angles list [] []) is.spelled
    (ap (both (some_of names ins es angles [] [] [])) (spelled_outputs list)
    ∙ with_outputs names ins es angles list) refl

-- ---- fixed corrections

-- the names of the numbers below one that pass a test
abbrev pub names_where : List Name → (ℕ → Bool) → ℕ → List Name
names_where names p k = map (name_at names) (numbers_where p k)

abbrev pub fixed_x_at : OpenGraph → ℕ → Bool
fixed_x_at g v = (fixed_at g v).x

abbrev pub fixed_z_at : OpenGraph → ℕ → Bool
fixed_z_at g v = (fixed_at g v).z

-- what is spelled where the fixed `X` of the vertices below `j` and the fixed `Z` of those below
-- `k` are
abbrev pub fixed_to : OpenGraph → List Name → List Pair → ℕ → ℕ → Spelled
fixed_to g ins es j k =
    some_of g.names ins es (angled_to g (size g)) (map (name_at g.names) g.outputs)
    (names_where g.names (fixed_x_at g) j) (names_where g.names (fixed_z_at g) k)

-- a name is not among those of lower numbers
pub not_lower : (names : List Name) (p : ℕ → Bool) (q : ℕ) → AreNames names → q < length names →
    is_held (names_where names p q) (name_at names q) ≡ false
not_lower names p q valid lt =
    held-numbers names (numbers_where p q) q valid.distinct
    (where_below p (length names) q (omega arith)) lt
    ∙ member-where p q q
    ∙ ap (λ (b : Bool). b && p q) (le-ltb q q (omega arith))

names_none : (names : List Name) (p : ℕ → Bool) (q : ℕ) → p q ≡ false →
    names_where names p (suc q) ≡ names_where names p q
names_none names p q e =
    ap (map (name_at names)) (numbers_where-last p q ∙ rw e (append-nil (numbers_where p q)))

names_more : (names : List Name) (p : ℕ → Bool) (q : ℕ) → p q ≡ true →
    names_where names p (suc q) ≡ names_where names p q ++ name_at names q ∷ []
names_more names p q e =
    ap (map (name_at names)) (numbers_where-last p q)
    ∙ map-append (name_at names) (numbers_where p q) (cond (p q) (q ∷ []) [])
    ∙ ap (λ (ns : List Name). names_where names p q ++ ns) (rw e refl)

-- a vertex with a fixed correction is an output, and there is one
either : (f : Fixed) → (f.x || f.z) ≡ true → f ≡ not_fixed → ⊥
either f some none = true≢false (sym some ∙ ap (λ (c : Fixed). c.x || c.z) none)

fixed_output : (half : ℕ) (g : OpenGraph) (q : ℕ) → IsGraph half g → q < size g →
    ((fixed_at g q).x || (fixed_at g q).z) ≡ true → graph.is_output g q ≡ true
fixed_output half g q h lt some = elim (cases_Bool (graph.is_output g q)) [
  | inl e ↦ e
  | inr e ↦ absurd (either (fixed_at g q) some (h.open_graph.fixed_outputs q lt e))
]

fixed_still : (half : ℕ) (g : OpenGraph) (q : ℕ) → IsGraph half g → q < size g →
    ((fixed_at g q).x || (fixed_at g q).z) ≡ true →
    is_held (map (λ (p : Pair). p.0) (angled_to g (size g))) (name_at g.names q) ≡ false
fixed_still half g q h lt some =
    held_angled g (size g) q h.open_graph.names (omega arith) lt
    ∙ ap₂ (λ (a b : Bool). a && b) (lt-ltb q (size g) lt)
    (output_bare half g q h lt (fixed_output half g q h lt some))

or_left : (a b : Bool) → a ≡ true → (a || b) ≡ true
or_left a b e = rw e refl

or_right : (a b : Bool) → b ≡ true → (a || b) ≡ true
or_right true b e = refl
or_right false b e = e

late : (version : ℕ) (g : OpenGraph) (q : ℕ) → (has_fixed g ≡ true → has_fixing version ≡ true) →
    q < size g → ((fixed_at g q).x || (fixed_at g q).z) ≡ true → has_fixing version ≡ true
late version g q may lt some =
    may (some_there (λ v. (fixed_at g v).x || (fixed_at g v).z) (size g) q lt some)

x_clean : (version half : ℕ) (g : OpenGraph) (before : Lines) (ins : List Name) (es : List Pair)
    (q : ℕ) → IsGraph half g → (has_fixed g ≡ true → has_fixing version ≡ true) → q < size g →
    fixed_x_at g q ≡ true → IsAt takes_late before (fixed_to g ins es q q) →
    CleanWords (graph_rules version) before [] (codes "x" ∷ name_at g.names q ∷ [])
x_clean version half g before ins es q h may lt e is =
    let s = fixed_to g ins es q q in
    let name = name_at g.names q in
    let valid = h.open_graph.names in
    let some = or_left (fixed_at g q).x (fixed_at g q).z e in
    let fixes = late version g q may lt some in
    let bare = fixed_still half g q h lt some in
    let free = not_lower g.names (fixed_x_at g) q valid lt in (
      begins_late version before s (codes "x") is (rw fixes refl),
      (
        judged version before (codes "x" ∷ []) s fixed_x name is.spelled refl
            (rw (still s name (known g.names q valid lt) bare, free) refl),
        refl,
      ),
    )

z_clean : (version half : ℕ) (g : OpenGraph) (before : Lines) (ins : List Name) (es : List Pair)
    (q : ℕ) → IsGraph half g → (has_fixed g ≡ true → has_fixing version ≡ true) → q < size g →
    fixed_z_at g q ≡ true → IsAt takes_late before (fixed_to g ins es (suc q) q) →
    CleanWords (graph_rules version) before [] (codes "z" ∷ name_at g.names q ∷ [])
z_clean version half g before ins es q h may lt e is =
    let s = fixed_to g ins es (suc q) q in
    let name = name_at g.names q in
    let valid = h.open_graph.names in
    let some = or_right (fixed_at g q).x (fixed_at g q).z e in
    let fixes = late version g q may lt some in
    let bare = fixed_still half g q h lt some in
    let free = not_lower g.names (fixed_z_at g) q valid lt in (
      begins_late version before s (codes "z") is (rw fixes refl),
      (
        judged version before (codes "z" ∷ []) s fixed_z name is.spelled refl
            (rw (still s name (known g.names q valid lt) bare, free) refl),
        refl,
      ),
    )

x_next : (before : Lines) (names ins : List Name) (es angles : List Pair)
    (outputs xs zs : List Name) (name : Name) →
    IsAt takes_late before (some_of names ins es angles outputs xs zs) →
    IsAt takes_late (before ++ (codes "x" ∷ name ∷ []) ∷ [])
    (some_of names ins es angles outputs (xs ++ name ∷ []) zs)
unfolding takes_late
x_next before names ins es angles outputs xs zs name is =
    next_at takes_late before (codes "x" ∷ name ∷ []) (some_of names ins es angles outputs xs zs)
    (some_of names ins es angles outputs (xs ++ name ∷ []) zs) is.spelled
    (rw (
      append-nil names,
      append-nil ins,
      append-nil es,
      append-nil angles,
      append-nil outputs,
      append-nil zs,
    ) refl) refl

z_next : (before : Lines) (names ins : List Name) (es angles : List Pair)
    (outputs xs zs : List Name) (name : Name) →
    IsAt takes_late before (some_of names ins es angles outputs xs zs) →
    IsAt takes_late (before ++ (codes "z" ∷ name ∷ []) ∷ [])
    (some_of names ins es angles outputs xs (zs ++ name ∷ []))
unfolding takes_late
z_next before names ins es angles outputs xs zs name is =
    next_at takes_late before (codes "z" ∷ name ∷ []) (some_of names ins es angles outputs xs zs)
    (some_of names ins es angles outputs xs (zs ++ name ∷ [])) is.spelled
    (rw (
      append-nil names,
      append-nil ins,
      append-nil es,
      append-nil angles,
      append-nil outputs,
      append-nil xs,
    ) refl) refl

x_lines : (version half : ℕ) (g : OpenGraph) (before : Lines) (ins : List Name) (es : List Pair)
    (q : ℕ) (stands : Bool) (tail : Lines) (whole : Spelled) → IsGraph half g →
    (has_fixed g ≡ true → has_fixing version ≡ true) → q < size g → fixed_x_at g q ≡ stands →
    IsAt takes_late before (fixed_to g ins es q q) →
    ((before' : Lines) → IsAt takes_late before' (fixed_to g ins es (suc q) q) →
    Reads version before' tail whole) →
    Reads version before (cond stands ((codes "x" ∷ name_at g.names q ∷ []) ∷ []) [] ++ tail) whole
x_lines version half g before ins es q false tail whole h may lt e is rest =
    rest before (rw (names_none g.names (fixed_x_at g) q e) is)
x_lines version half g before ins es q true tail whole h may lt e is rest =
    let line = codes "x" ∷ name_at g.names q ∷ [] in
    reads_more version before line tail whole (x_clean version half g before ins es q h may lt e is)
    refl
    (rest (before ++ line ∷ [])
    (rw (names_more g.names (fixed_x_at g) q e)
    (x_next before g.names ins es (angled_to g (size g)) (map (name_at g.names) g.outputs)
    (names_where g.names (fixed_x_at g) q) (names_where g.names (fixed_z_at g) q)
    (name_at g.names q) is)))

z_lines : (version half : ℕ) (g : OpenGraph) (before : Lines) (ins : List Name) (es : List Pair)
    (q : ℕ) (stands : Bool) (tail : Lines) (whole : Spelled) → IsGraph half g →
    (has_fixed g ≡ true → has_fixing version ≡ true) → q < size g → fixed_z_at g q ≡ stands →
    IsAt takes_late before (fixed_to g ins es (suc q) q) →
    ((before' : Lines) → IsAt takes_late before' (fixed_to g ins es (suc q) (suc q)) →
    Reads version before' tail whole) →
    Reads version before (cond stands ((codes "z" ∷ name_at g.names q ∷ []) ∷ []) [] ++ tail) whole
z_lines version half g before ins es q false tail whole h may lt e is rest =
    rest before (rw (names_none g.names (fixed_z_at g) q e) is)
z_lines version half g before ins es q true tail whole h may lt e is rest =
    let line = codes "z" ∷ name_at g.names q ∷ [] in
    reads_more version before line tail whole (z_clean version half g before ins es q h may lt e is)
    refl
    (rest (before ++ line ∷ [])
    (rw (names_more g.names (fixed_z_at g) q e)
    (z_next before g.names ins es (angled_to g (size g)) (map (name_at g.names) g.outputs)
    (names_where g.names (fixed_x_at g) (suc q)) (names_where g.names (fixed_z_at g) q)
    (name_at g.names q) is)))

-- the lines of one vertex
fixed_lines_clean : (version half : ℕ) (g : OpenGraph) (before : Lines) (ins : List Name)
    (es : List Pair) (q : ℕ) (tail : Lines) (whole : Spelled) → IsGraph half g →
    (has_fixed g ≡ true → has_fixing version ≡ true) → q < size g →
    IsAt takes_late before (fixed_to g ins es q q) →
    ((before' : Lines) → IsAt takes_late before' (fixed_to g ins es (suc q) (suc q)) →
    Reads version before' tail whole) →
    Reads version before (fixed_lines g.names q (fixed_at g q) ++ tail) whole
fixed_lines_clean version half g before ins es q tail whole h may lt is rest =
    let xs = cond (fixed_at g q).x ((codes "x" ∷ name_at g.names q ∷ []) ∷ []) [] in
    let zs = cond (fixed_at g q).z ((codes "z" ∷ name_at g.names q ∷ []) ∷ []) [] in
    rw (append_assoc xs zs tail)
    (x_lines version half g before ins es q (fixed_at g q).x (zs ++ tail) whole h may lt refl is
    (λ before' is'.
    z_lines version half g before' ins es q (fixed_at g q).z tail whole h may lt refl is' rest))

pub fixed_clean : (version half : ℕ) (g : OpenGraph) (before : Lines) (ins : List Name)
    (es : List Pair) (q m : ℕ) (tail : Lines) (whole : Spelled) → IsGraph half g →
    (has_fixed g ≡ true → has_fixing version ≡ true) → q + m ≡ size g →
    IsAt takes_late before (fixed_to g ins es q q) →
    ((before' : Lines) → IsAt takes_late before' (fixed_to g ins es (size g) (size g)) →
    Reads version before' tail whole) →
    Reads version before
    (flat_map (λ v. fixed_lines g.names v (fixed_at g v)) (numbers_from q m) ++ tail) whole
fixed_clean version half g before ins es q zero tail whole h may all is rest =
    let e : q ≡ size g = omega arith in
    rest before (subst (λ (k : ℕ). IsAt takes_late before (fixed_to g ins es k k)) e is)
fixed_clean version half g before ins es q (suc m) tail whole h may all is rest =
    let here = fixed_lines g.names q (fixed_at g q) in
    let later = flat_map (λ v. fixed_lines g.names v (fixed_at g v)) (numbers_from (suc q) m) in
    rw (append_assoc here later tail)
    (fixed_lines_clean version half g before ins es q (later ++ tail) whole h may (omega arith) is
    (λ before' is'. fixed_clean version half g before' ins es (suc q) m tail whole h may
    (omega arith) is' rest))

-- ---- the last line

with_end : (s : Spelled) → both s (spelled_at [] (codes "end" ∷ [])) ≡ s
with_end s =
    rw (
      append-nil s.names,
      append-nil s.inputs,
      append-nil s.edges,
      append-nil s.angles,
      append-nil s.outputs,
      append-nil s.xs,
      append-nil s.zs,
    ) refl

pub end_reads : (version : ℕ) (before : Lines) (s : Spelled) → IsAt takes_late before s →
    Reads version before ((codes "end" ∷ []) ∷ []) s
end_reads version before s is = record {
  clean =
      last before (codes "end" ∷ [])
      (begins_late version before s (codes "end") is refl, refl) refl;
  spelled =
      (next_at (λ h. true) before (codes "end" ∷ []) s s is.spelled (with_end s) refl).spelled;
}
