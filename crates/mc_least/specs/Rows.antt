-- The rows of a chosen bound while they are made.
use Rattle.std.specs.Prelude.{◌≡◌, ℕ, ◌<◌, ◌≤◌, false, List, All}
use Rattle.mc_model.specs.Numbers.{is_member}
use Rattle.mc_model.specs.Signals.{IsRising}
use Rattle.mc_model.specs.Graph.{OpenGraph, size, is_output}
use Rattle.mc_model.specs.Choice.{IsLeastSet, IsLaterNumber}
use Rattle.mc_model.specs.Depth.{KeepsAbove}
use Rattle.mc_cert.specs.BoundRecords.{LayerRow, BoundRow}
use Rattle.mc_least.specs.Listed.{Lists}

-- a vertex of layer `j`, at least 1
pub record IsLayerDue (g : OpenGraph) (layer : ℕ → ℕ) (j v : ℕ) : Type 0 where
  pub vertex : v < size g
  pub positive : 1 ≤ j
  pub layer_is : j ≡ layer v

abbrev pub HoldsLayers : OpenGraph → (ℕ → ℕ) → ℕ → ℕ → List LayerRow → Type 0
HoldsLayers g layer k x rows =
    Lists (λ r. r.layer) (λ r. r.vertex) (IsLayerDue g layer)
    (λ r. IsLayerDue g layer r.layer r.vertex) k x rows

-- a vertex, no output, of a layer above `j`, which is at least 1
pub record IsSetDue (g : OpenGraph) (layer : ℕ → ℕ) (j u : ℕ) : Type 0 where
  pub positive : 1 ≤ j
  pub above : j < layer u
  pub vertex : u < size g
  pub no_output : is_output g u ≡ false

-- the least set that keeps the vertex above the layer
pub record IsSetRow (g : OpenGraph) (layer : ℕ → ℕ) (r : BoundRow) : Type 0 where
  pub due : IsSetDue g layer r.k r.vertex
  pub least : IsLeastSet IsLaterNumber (size g) (KeepsAbove g layer r.k r.vertex)
      (is_member r.set)
  pub members : All (λ j. j < size g) r.set
  pub rising : IsRising r.set

abbrev pub HoldsSets : OpenGraph → (ℕ → ℕ) → ℕ → ℕ → List BoundRow → Type 0
HoldsSets g layer k x rows =
    Lists (λ r. r.k) (λ r. r.vertex) (IsSetDue g layer) (IsSetRow g layer) k x rows
