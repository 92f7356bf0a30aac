-- The rows of a causal flow, and what is read in them.
use Rattle.std.proofs.Common.{◌≡◌, ◌≢◌, ℕ, zero, suc, ◌+◌, ◌<◌, ◌≤◌, Bool, true, false, not, ◌||◌}
use Rattle.std.proofs.Common.{◌⊎◌, drop, map, List, [], ◌∷◌, length, refl, sym, ◌∙◌, ap, arith}
use Rattle.std.specs.Prelude.{nat_eq, Option, Some, None, unwrap_or, option_map, slice_get}
use Rattle.std.specs.Prelude.{slice_index_or}
use Rattle.std.specs.List.{AllByRecursion}
use Rattle.std.proofs.lemmas.Bool.{eq-eqb, ne_eqb, cases_eq, false≢true}
use Rattle.std.proofs.lemmas.List.{get_or_past}
use Rattle.std.proofs.lemmas.List.Elements.{recursion_from_All}
use mathlib.Core.Path.{fun_ext, subst}
use mathlib.Core.Logic.{inl, inr}
use Rattle.mc_model.specs.Bits.{Bits}
use Rattle.mc_model.specs.Numbers.{is_member, numbers_from}
use Rattle.mc_model.specs.Graph.{OpenGraph, size, is_output}
use Rattle.mc_model.specs.Flow.{IsCausalFlow, CorrectsAt, single}
use Rattle.mc_model.proofs.NumberLists.{member_once}
use Rattle.mc_graph.specs.RowLists.{row_at}
use Rattle.mc_graph.specs.Flows.{FlowLine, FlowRows, layer_in, next_in, set_in, sets_in}
use Rattle.mc_graph.specs.Flows.{vertices_of, IsCausalFlowOf}
use Rattle.mc_extract.specs.Chains.{number_at}
use Rattle.mc_extract.proofs.FinderLemmas.{read_number, length_numbers}

or_none : (b : Bool) → b || false ≡ b
or_none b = grind arith

-- a set of one member has its first one alone
single_set : (s : List ℕ) → length s ≡ 1 → is_member s ≡ single (slice_index_or s 0 0)
single_set [] e = absurd (omega arith)
single_set (w ∷ []) e = fun_ext λ k. or_none (nat_eq k w)
single_set (w ∷ x ∷ s) e = absurd (omega arith)

found_row : (rows : List FlowLine) (v : ℕ) → AllByRecursion (λ r. length r.set ≡ 1) rows →
    is_member (vertices_of rows) v ≡ true →
    (r : FlowLine) × (row_at (λ s. s.vertex) rows v ≡ Some r) × (length r.set ≡ 1)
found_row [] v all m = absurd (false≢true m)
found_row (r ∷ rows) v all m = elim (cases_eq v r.vertex) [
  | inl e ↦ (r, rw (eq-eqb v r.vertex e) refl, all.0)
  | inr ne ↦
      let h = found_row rows v all.1 (rw (ne_eqb v r.vertex ne) at m) in
      (h.0, rw (ne_eqb v r.vertex ne) (h.1), h.2)
]

no_row : (rows : List FlowLine) (n v : ℕ) → AllByRecursion (λ q. q < n) (vertices_of rows) →
    n ≤ v → row_at (λ r. r.vertex) rows v ≡ None
no_row [] n v all l = refl
no_row (r ∷ rows) n v all l =
    let low = all.0 in
    rw (ne_eqb v r.vertex (λ e. absurd (omega arith))) (no_row rows n v all.1 l)

-- the first members of the sets are the nexts of a causal flow
pub causal_rows : (g : OpenGraph) (f : FlowRows) → IsCausalFlowOf g f →
    IsCausalFlow g (next_in f.rows) (layer_in f.rows)
causal_rows g f h = record {
  outputs = h.flow.flow.outputs;
  positive = h.flow.flow.positive;
  corrects = λ i l e.
      subst (λ (s : Bits). CorrectsAt g s (layer_in f.rows) i) (set_single i l e)
      (h.flow.flow.corrects i l e);
}
  where
    set_single : (i : ℕ) → i < size g → is_output g i ≡ false →
        sets_in f.rows i ≡ single (next_in f.rows i)
    set_single i l e =
        let r = found_row f.rows i
        (recursion_from_All (λ (r : FlowLine). length r.set ≡ 1) f.rows h.singles)
        (member_once (vertices_of f.rows) i (not (is_output g i)) (h.flow.whole.once.once i l)
        ∙ ap not e) in
        single_set (set_in f.rows i)
        (ap (λ (o : Option FlowLine).
        length (unwrap_or (option_map (λ (s : FlowLine). s.set) o) [])) (r.1) ∙ r.2)

no_next : (g : OpenGraph) (f : FlowRows) → IsCausalFlowOf g f → (v : ℕ) → size g ≤ v →
    next_in f.rows v ≡ 0
no_next g f h v l =
    ap (λ (o : Option FlowLine).
    slice_index_or (unwrap_or (option_map (λ (r : FlowLine). r.set) o) []) 0 0)
    (no_row f.rows (size g) v
    (recursion_from_All (λ (q : ℕ). q < size g) (vertices_of f.rows) h.flow.whole.once.below) l)

-- ---- lists of numbers, one for each vertex

sides : (v n : ℕ) → (v < n) ⊎ (n ≤ v)
sides v n = grind arith

pub long_table : (f : ℕ → ℕ) (n : ℕ) (list : List ℕ) → list ≡ map f (numbers_from 0 n) →
    length list ≡ n
long_table f n list e = ap length e ∙ length_numbers f 0 n

table_is : (f : ℕ → ℕ) (n : ℕ) → ((v : ℕ) → n ≤ v → f v ≡ 0) → (list : List ℕ) →
    list ≡ map f (numbers_from 0 n) → number_at list ≡ f
table_is f n past list e = fun_ext λ v. elim (sides v n) [
  | inl l ↦ ap (λ (ns : List ℕ). number_at ns v) e ∙ read_number f n v 0 l
  | inr l ↦
      let long = long_table f n list e in
      get_or_past list v 0 (omega arith) ∙ sym (past v l)
]

pub nexts_are : (g : OpenGraph) (f : FlowRows) → IsCausalFlowOf g f → (next : List ℕ) →
    next ≡ map (next_in f.rows) (numbers_from 0 (size g)) → number_at next ≡ next_in f.rows
nexts_are g f flow next e = table_is (next_in f.rows) (size g) (no_next g f flow) next e

-- ---- the row at a place

drop_at : (rows : List FlowLine) (i : ℕ) (r : FlowLine) → slice_get rows i ≡ Some r →
    drop i rows ≡ r ∷ drop (i + 1) rows
drop_at [] i r e = absurd (cc)
drop_at (s ∷ rows) zero r e =
    let same : s ≡ r = cc in ap (λ (t : FlowLine). t ∷ rows) same
drop_at (s ∷ rows) (suc i) r e =
    let more : suc (i + 1) ≡ suc i + 1 = omega arith in
    drop_at rows i r e ∙ ap (λ (n : ℕ). r ∷ drop n (s ∷ rows)) more

pub row_here : (rows : List FlowLine) (i v : ℕ) (r : FlowLine) → slice_get rows i ≡ Some r →
    row_at (λ s. s.vertex) rows v ≡ row_at (λ s. s.vertex) (drop i rows) v → r.vertex ≡ v →
    row_at (λ s. s.vertex) rows v ≡ slice_get rows i
row_here rows i v r at e same =
    e ∙ ap (λ (rs : List FlowLine). row_at (λ (s : FlowLine). s.vertex) rs v) (drop_at rows i r at)
    ∙ rw (eq-eqb v r.vertex (sym same)) (sym at)

pub row_later : (rows : List FlowLine) (i v : ℕ) (r : FlowLine) → slice_get rows i ≡ Some r →
    row_at (λ s. s.vertex) rows v ≡ row_at (λ s. s.vertex) (drop i rows) v → r.vertex ≢ v →
    row_at (λ s. s.vertex) rows v ≡ row_at (λ s. s.vertex) (drop (i + 1) rows) v
row_later rows i v r at e other =
    e ∙ ap (λ (rs : List FlowLine). row_at (λ (s : FlowLine). s.vertex) rs v) (drop_at rows i r at)
    ∙ rw (ne_eqb v r.vertex (λ s. other (sym s))) refl

pub row_nowhere : (rows : List FlowLine) (i v : ℕ) → length rows ≤ i →
    row_at (λ s. s.vertex) rows v ≡ row_at (λ s. s.vertex) (drop i rows) v →
    row_at (λ s. s.vertex) rows v ≡ None
row_nowhere rows i v l e =
    e ∙ ap (λ (rs : List FlowLine). row_at (λ (s : FlowLine). s.vertex) rs v) (drop_all rows i l)
  where
    drop_all : (rows : List FlowLine) (i : ℕ) → length rows ≤ i → drop i rows ≡ []
    drop_all [] zero l = refl
    drop_all [] (suc i) l = refl
    drop_all (r ∷ rows) zero l = absurd (omega arith)
    drop_all (r ∷ rows) (suc i) l = drop_all rows i (omega arith)
