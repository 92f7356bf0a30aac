-- The rows of the bound that is chosen for a flow.
use Rattle.std.specs.Prelude.{◌≡◌, ℕ, ◌<◌, All}
use Rattle.mc_model.specs.Signals.{IsRising}
use Rattle.mc_model.specs.Graph.{OpenGraph, size}
use Rattle.mc_model.specs.Choice.{IsLeastLayer}
use Rattle.mc_graph.specs.Flows.{FlowRows, layer_in, IsFlowOf}
use Rattle.mc_cert.specs.BoundRules.{stated_in, keeping_in, AreBoundRows, IsBoundOf}
use Rattle.mc_cert.specs.Bounds.{BoundRows, AreOwn}
use Rattle.mc_least.specs.Bound.{IsChosenBound}
use Rattle.mc_least.specs.Listed.{Rises}

-- a flow of the graph that gives each vertex its least layer
pub record IsEarliest (g : OpenGraph) (f : FlowRows) : Type 0 where
  pub flow : IsFlowOf g f
  pub least : (v : ℕ) → v < size g → IsLeastLayer g v (layer_in f.rows v)

-- layers by rising layer, and within a layer by rising number; sets by rising layer that they keep
-- from, and for each by rising number, their members too
pub record AreInOrder (b : BoundRows) : Type 0 where
  pub layers : Rises (λ r. r.layer) (λ r. r.vertex) b.layers
  pub rows : Rises (λ r. r.k) (λ r. r.vertex) b.rows
  pub members : All (λ r. IsRising r.set) b.rows

-- the bound of the flow's depth and layers with the least sets, in order
pub record IsChosenBoundOf (g : OpenGraph) (f : FlowRows) (b : BoundRows) : Type 0 where
  pub depth : b.depth ≡ f.depth
  pub layers : All (λ r. r.layer ≡ layer_in f.rows r.vertex) b.layers
  pub stated : (v : ℕ) → v < size g → stated_in b.layers v ≡ layer_in f.rows v
  pub chosen : IsChosenBound g (layer_in f.rows) (keeping_in b.rows)
  pub holds : IsBoundOf g b.depth b.layers b.rows
  pub vertices : All (λ r. r.vertex < size g) b.layers
  pub sets : AreBoundRows g b.rows
  pub own : AreOwn b.layers b.rows
  pub order : AreInOrder b
