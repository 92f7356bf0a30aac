-- What is made by the chosen flow, and extracted by the chosen causal flow, is one.
use Rattle.std.proofs.Common.{◌≡◌, ℕ, ◌<◌, ◌≤◌, Bool, false}
use Rattle.std.proofs.Common.{List, [], ◌∷◌, refl, sym, ap}
use Rattle.std.proofs.Common.{◌∙◌}
use Rattle.std.proofs.Common.{◌||◌, arith, inl, inr}
use Rattle.std.specs.Prelude.{nat_eq, All}
use Rattle.std.proofs.lemmas.Bool.{ne_eqb, cases_lt}
use Rattle.std.proofs.lemmas.List.Elements.{All-head, All-tail}
use Rattle.mc_model.specs.Bits.{Bits}
use Rattle.mc_model.specs.Numbers.{is_member}
use Rattle.mc_model.specs.Graph.{OpenGraph, size}
use Rattle.mc_model.specs.Choice.{IsChosenFlow, IsChosenCausalFlow, IsChosenStuckSet}
use Rattle.mc_model.specs.Made.{flow_pattern, extracted_circuit}
use Rattle.mc_extract.specs.Laws.{ChosenCausalFlowsAreUnique, ChosenStuckSetsAreUnique}
use Rattle.mc_top.proofs.OneChoice.{same_layers, same_sets}
use Rattle.mc_top.proofs.SameMade.{same_flow_pattern}
use Rattle.mc_top.proofs.SameExtracted.{same_extracted}

pub one_flow_pattern : (g : OpenGraph) (sets sets' : ℕ → Bits) (layer layer' : ℕ → ℕ) →
    IsChosenFlow g sets layer → IsChosenFlow g sets' layer' →
    flow_pattern g sets layer ≡ flow_pattern g sets' layer'
one_flow_pattern g sets sets' layer layer' p q =
    same_flow_pattern g sets sets' layer layer' (same_layers g sets sets' layer layer' p q)
    (same_sets g sets sets' layer layer' p q)

pub one_extracted : ChosenCausalFlowsAreUnique → (half : ℕ) (g : OpenGraph)
    (next next' layer layer' : ℕ → ℕ) → IsChosenCausalFlow g next layer →
    IsChosenCausalFlow g next' layer' →
    extracted_circuit half g next layer ≡ extracted_circuit half g next' layer'
one_extracted law half g next next' layer layer' p q =
    let (layers, nexts) = law g next layer next' layer' p q in
    same_extracted half g next next' layer layer' layers nexts

no_member : (n : ℕ) (s : List ℕ) (x : ℕ) → All (λ v. v < n) s → n ≤ x → is_member s x ≡ false
no_member n [] x all h = refl
no_member n (v ∷ s) x all h =
    let low = All-head (λ v. v < n) v s all in
    let ne : nat_eq x v ≡ false = ne_eqb x v (λ e. absurd (omega arith)) in
    ap (λ (b : Bool). b || is_member s x) ne
    ∙ no_member n s x (All-tail (λ v. v < n) v s all) h

pub one_stuck : ChosenStuckSetsAreUnique → (g : OpenGraph) (s t : List ℕ) →
    IsChosenStuckSet g (is_member s) → IsChosenStuckSet g (is_member t) →
    All (λ v. v < size g) s → All (λ v. v < size g) t → (x : ℕ) →
    is_member s x ≡ is_member t x
one_stuck law g s t p q low high x = elim (cases_lt x (size g)) [
  | inl l ↦ law g (is_member s) (is_member t) p q x l
  | inr l ↦
      no_member (size g) s x low (omega arith) ∙ sym (no_member (size g) t x high (omega arith))
]
