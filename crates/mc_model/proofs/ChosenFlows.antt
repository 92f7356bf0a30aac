-- The chosen flow is a flow.
use Rattle.std.proofs.Common.{◌≡◌, ℕ, ◌<◌, ◌≤◌, true, false, refl, sym, ◌∙◌, arith}
use Rattle.std.proofs.lemmas.Bool.{eq-eqb, ne_eqb, cases_Bool, true≢false}
use mathlib.Core.Logic.{inl, inr}
use Rattle.mc_model.specs.Bits.{Bits}
use Rattle.mc_model.specs.Graph.{OpenGraph, size, is_output}
use Rattle.mc_model.specs.Flow.{CorrectsAt, IsFlow}
use Rattle.mc_model.specs.Choice.{CorrectsAlone, IsChosenFlow}

pub chosen_is_flow : (g : OpenGraph) (sets : ℕ → Bits) (layer : ℕ → ℕ) →
    IsChosenFlow g sets layer → IsFlow g sets layer
chosen_is_flow g sets layer chosen = record {
  outputs = λ v l e. outputs v l e;
  positive = λ i l e. positive i l e;
  corrects = λ i l e. corrects i l e ((chosen.least_sets i l e).has);
}
  where
    outputs : (v : ℕ) → v < size g → is_output g v ≡ true → layer v ≡ 0
    outputs v l e = let h = chosen.least_layers v l in sym h.reached ∙ h.flow.outputs v l e

    positive : (i : ℕ) → i < size g → is_output g i ≡ false → 1 ≤ layer i
    positive i l e =
        let h = chosen.least_layers i l in
        let reached = h.reached in
        let low = h.flow.positive i l e in
        omega arith

    corrects : (i : ℕ) → i < size g → is_output g i ≡ false → CorrectsAlone g layer i (sets i) →
        CorrectsAt g (sets i) layer i
    corrects i l e at = record {
      within = at.within;
      no_input = at.no_input;
      not_itself = elim (cases_Bool (sets i i)) [
        | inl h ↦ (let low = at.later i h in absurd (omega arith))
        | inr h ↦ h
      ];
      odd_itself = at.alone i l e ∙ eq-eqb i i refl;
      set_later = at.later;
      odd_later = λ k lk ne odd. elim (cases_Bool (is_output g k)) [
        | inl out ↦
            let none = outputs k lk out in
            let low = positive i l e in
            omega arith
        | inr inner ↦
            absurd (true≢false (sym odd ∙ at.alone k lk inner ∙ ne_eqb k i ne))
      ];
    }
