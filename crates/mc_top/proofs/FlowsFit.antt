-- The rows of a chosen flow are of vertices, have sets of vertices, and numbers of few digits.
use Rattle.std.proofs.Common.{◌≡◌, ℕ, ◌<◌, ◌≤◌, Bool, true, false, not, cond, ◌||◌}
use Rattle.std.proofs.Common.{List, [], ◌∷◌, Option, Some, refl, ap, ◌∙◌, inl, inr}
use Rattle.std.proofs.Common.{arith}
use Rattle.std.specs.Prelude.{nat_eq, count_by, All, option_map, unwrap_or}
use Rattle.std.proofs.lemmas.Bool.{cases_eq, eq-eqb, ne_eqb}
use Rattle.std.proofs.lemmas.List.Elements.{All-nil, All-cons, All-head, All-tail}
use Rattle.mc_model.specs.Numbers.{is_member}
use Rattle.mc_model.specs.Graph.{OpenGraph, size, is_output}
use Rattle.mc_model.proofs.NumberLists.{count-first}
use Rattle.mc_model.proofs.ChosenFlows.{chosen_is_flow}
use Rattle.mc_graph.specs.RowLists.{row_at}
use Rattle.mc_graph.specs.Flows.{FlowLine, FlowRows, AreFlowLines, IsChosenFlowOf, IsFlowOf}
use Rattle.mc_graph.specs.Flows.{layer_in, set_in, sets_in, vertices_of}
use Rattle.mc_cert_text.specs.Certs.{HasShortNumbers, flow}
use Rattle.mc_top.proofs.LeastDepths.{depth_few, layers_few}

abbrev row_in : List FlowLine → ℕ → Option FlowLine
row_in rows v = row_at (λ r. r.vertex) rows v

-- a row that is found is of the vertex, and counts
found_vertex : (rows : List FlowLine) (v : ℕ) (r : FlowLine) → row_in rows v ≡ Some r →
    (v ≡ r.vertex) × (1 ≤ count_by (nat_eq v) (vertices_of rows))
found_vertex [] v r e = absurd (cc e)
found_vertex (s ∷ rows) v r e =
    let c = count-first v s.vertex (vertices_of rows) in
    elim (cases_eq v s.vertex) [
      | inl same ↦
          let here : Some s ≡ Some r = rw (eq-eqb v s.vertex same) at e in
          let is : s ≡ r = cc here in
          let one : cond {A = ℕ} (nat_eq v s.vertex) 1 0 ≡ 1 =
          ap (λ (b : Bool). cond b 1 0) (eq-eqb v s.vertex same) in
          (same ∙ ap (λ (t : FlowLine). t.vertex) is, omega arith)
      | inr ne ↦
          let later = found_vertex rows v r (rw (ne_eqb v s.vertex ne) at e) in
          let some = later.1 in
          (later.0, omega arith)
    ]

-- what holds of each row that is found holds of all, where no vertex has two
all_found : (n : ℕ) (rows : List FlowLine) → All (λ q. q < n) (vertices_of rows) →
    ((q : ℕ) → q < n → count_by (nat_eq q) (vertices_of rows) ≤ 1) → (P : FlowLine → Type 0) →
    ((v : ℕ) (r : FlowLine) → v < n → row_in rows v ≡ Some r → P r) → All P rows
all_found n [] below once P h = All-nil P
all_found n (r ∷ rows) below once P h =
    let low = All-head (λ q. q < n) r.vertex (vertices_of rows) below in
    All-cons P r rows (h r.vertex r low (rw (eq-eqb r.vertex r.vertex refl) refl))
    (all_found n rows (All-tail (λ q. q < n) r.vertex (vertices_of rows) below)
    (λ q l. let c = count-first q r.vertex (vertices_of rows) in
    let most = once q l in omega arith)
    P
    (λ v s l e. elim (cases_eq v r.vertex) [
      | inl same ↦
          let c = count-first v r.vertex (vertices_of rows) in
          let one : cond {A = ℕ} (nat_eq v r.vertex) 1 0 ≡ 1 =
          ap (λ (b : Bool). cond b 1 0) (eq-eqb v r.vertex same) in
          let some = (found_vertex rows v s e).1 in
          let most = once v l in absurd (omega arith)
      | inr ne ↦ h v s l (rw (ne_eqb v r.vertex ne) e)
    ]))

later_or : (a b : Bool) → b ≡ true → a || b ≡ true
later_or a b e = grind arith

-- what holds of each member holds of all
all_members : (P : ℕ → Type 0) (s : List ℕ) → ((j : ℕ) → is_member s j ≡ true → P j) →
    All P s
all_members P [] h = All-nil P
all_members P (q ∷ s) h =
    All-cons P q s (h q (ap (λ (b : Bool). b || is_member s q) (eq-eqb q q refl)))
    (all_members P s (λ j e. h j (later_or (nat_eq j q) (is_member s j) e)))

mapped_all : (n : ℕ) (rows : List FlowLine) → All (λ q. q < n) (vertices_of rows) →
    All (λ (r : FlowLine). r.vertex < n) rows
mapped_all n [] h = All-nil (λ (r : FlowLine). r.vertex < n)
mapped_all n (r ∷ rows) h =
    All-cons (λ (r : FlowLine). r.vertex < n) r rows
    (All-head (λ q. q < n) r.vertex (vertices_of rows) h)
    (mapped_all n rows (All-tail (λ q. q < n) r.vertex (vertices_of rows) h))

one_at_most : (b : Bool) (n : ℕ) → n ≡ cond b 1 0 → n ≤ 1
one_at_most true n e = omega arith
one_at_most false n e = omega arith

none_where : (out : Bool) (n : ℕ) → n ≡ cond (not out) 1 0 → 1 ≤ n → out ≡ false
none_where false n e some = refl
none_where true n e some = absurd (omega arith)

pub lines_fit : (g : OpenGraph) (f : FlowRows) → IsFlowOf g f → AreFlowLines g f.rows
lines_fit g f h = record {
  vertices = mapped_all (size g) f.rows h.whole.once.below;
  members =
      all_found (size g) f.rows h.whole.once.below
      (λ q l. one_at_most (not (is_output g q)) _ (h.whole.once.once q l))
      (λ r. All (λ k. k < size g) r.set)
      (λ v r l e.
      let some = (found_vertex f.rows v r e).1 in
      let inner = none_where (is_output g v) _ (h.whole.once.once v l) some in
      let set : set_in f.rows v ≡ r.set =
      ap (λ (o : Option FlowLine). unwrap_or (option_map (λ s. s.set) o) []) e in
      all_members (λ k. k < size g) r.set (λ j m.
      (h.flow.corrects v l inner).within j (ap (λ (s : List ℕ). is_member s j) set ∙ m)));
}

pub numbers_fit : (g : OpenGraph) (f : FlowRows) → size g ≤ 256 → IsChosenFlowOf g f →
    HasShortNumbers (flow f)
numbers_fit g f few h =
    let deep = depth_few g (sets_in f.rows) (layer_in f.rows) h.flow in
    let reached = h.whole.reached in (
      omega arith,
      all_found (size g) f.rows h.whole.once.below
          (λ q l. one_at_most (not (is_output g q)) _ (h.whole.once.once q l))
          (λ r. r.layer ≤ 9999)
          (λ v r l e.
          let low = layers_few g (sets_in f.rows) (layer_in f.rows) h.flow v l in
          let is : layer_in f.rows v ≡ r.layer =
          ap (λ (o : Option FlowLine). unwrap_or (option_map (λ s. s.layer) o) 0) e in
          omega arith),
    )

pub chosen_of : (g : OpenGraph) (f : FlowRows) → IsChosenFlowOf g f → IsFlowOf g f
chosen_of g f h = record {
  flow = chosen_is_flow g (sets_in f.rows) (layer_in f.rows) h.flow;
  whole = h.whole;
}
