-- What a loop that writes the gates holds: current vertices as bits, and the CZ gates of a row.
use Rattle.std.proofs.Common.{◌≡◌, ℕ, true, false, List, ◌∷◌, sym, ◌∙◌, ap}
use Rattle.std.specs.Prelude.{filter}
use Rattle.std.proofs.lemmas.Bool.{cases_eq}
use mathlib.Core.Path.{fun_ext}
use mathlib.Core.Logic.{inl, inr}
use Rattle.mc_model.specs.Bits.{Bits, replaced}
use Rattle.mc_model.specs.Numbers.{numbers_from}
use Rattle.mc_model.specs.Graph.{OpenGraph, size, joins}
use Rattle.mc_model.specs.Flow.{IsCausalFlow}
use Rattle.mc_model.specs.Made.{is_current}
use Rattle.mc_model.proofs.BitLemmas.{replaced_same, replaced_other}
use Rattle.mc_graph.specs.Neighbours.{neighbours}
use Rattle.mc_extract.proofs.Passing.{IsNextToPass, current_next, current_step, not_current}
use Rattle.mc_extract.proofs.EdgeSigns.{neighbours_now}
use Rattle.mc_extract.proofs.Rounds.{filter-filter}

-- a step puts the next vertex in the place of the one that is passed
pub current_moves : (g : OpenGraph) (next layer : ℕ → ℕ) → IsCausalFlow g next layer →
    (done : List ℕ) (i : ℕ) → IsNextToPass g layer done i →
    is_current g next (i ∷ done)
    ≡ replaced (replaced (is_current g next done) i false) (next i) true
current_moves g next layer flow done i at = fun_ext λ k.
    let before : Bits = is_current g next done in
    let without : Bits = replaced before i false in
    elim (cases_eq k (next i)) [
      | inl e ↦
          ap (is_current g next (i ∷ done)) e ∙ current_next g next layer flow done i at
          ∙ sym (replaced_same without (next i) true)
          ∙ ap (replaced without (next i) true) (sym e)
      | inr nn ↦ elim (cases_eq k i) [
        | inl e ↦
            ap (is_current g next (i ∷ done)) e ∙ not_current g next layer flow done i at
            ∙ sym (replaced_same before i false)
            ∙ ap without (sym e)
            ∙ sym (replaced_other without (next i) true k nn)
        | inr ni ↦
            current_step g next layer flow done i at k ni nn
            ∙ sym (replaced_other before i false k ni)
            ∙ sym (replaced_other without (next i) true k nn)
      ]
    ]

-- the current vertices in the row of the next one
pub neighbours_of_row : (g : OpenGraph) (next : ℕ → ℕ) (done : List ℕ) (i : ℕ) →
    neighbours_now g next done i ≡ filter (is_current g next (i ∷ done)) (neighbours g (next i))
neighbours_of_row g next done i =
    sym (filter-filter (joins g.edges (next i)) (is_current g next (i ∷ done))
    (numbers_from 0 (size g)))
