-- Every graph has a chosen flow or a chosen refuter, and a chosen causal flow or a chosen stuck
-- set; a chosen flow has a chosen bound of depth.
use Rattle.std.specs.Prelude.{◌⊎◌, ◌<◌, ℕ, List, All}
use Rattle.mc_model.specs.Numbers.{is_member}
use Rattle.mc_model.specs.Signals.{IsRising}
use Rattle.mc_model.specs.Graph.{OpenGraph, size}
use Rattle.mc_model.specs.Choice.{IsChosenStuckSet}
use Rattle.mc_graph.specs.RowLists.{HaveOwnVertices}
use Rattle.mc_graph.specs.Flows.{FlowRows, IsChosenFlowOf, IsChosenCausalFlowOf}
use Rattle.mc_graph.specs.Refuters.{RefuterLine, IsChosenRefuterOf}
use Rattle.mc_gflow.specs.Answers.{HasNoFlow}
use Rattle.mc_extract.specs.Answers.{HasNoCausalFlow}
use Rattle.mc_cert.specs.Bounds.{BoundRows}
use Rattle.mc_least.specs.Chosen.{IsChosenBoundOf}

-- the rows of the chosen flow, one for a vertex, each set rising
pub record HasChosenFlow (g : OpenGraph) : Type 0 where
  pub rows : FlowRows
  pub chosen : IsChosenFlowOf g rows
  pub own : HaveOwnVertices (λ r. r.vertex) rows.rows × All (λ r. IsRising r.set) rows.rows

-- the rows of the chosen refuter, one for a vertex, each set rising, and there is no flow
pub record HasChosenRefuter (g : OpenGraph) : Type 0 where
  pub rows : List RefuterLine
  pub chosen : IsChosenRefuterOf g rows
  pub none : HasNoFlow g
  pub own : HaveOwnVertices (λ r. r.vertex) rows × All (λ r. IsRising r.set) rows

abbrev pub FlowsOrRefutersExist : Type 0
FlowsOrRefutersExist = (g : OpenGraph) → HasChosenFlow g ⊎ HasChosenRefuter g

-- the rows of the chosen causal flow
pub record HasChosenCausalFlow (g : OpenGraph) : Type 0 where
  pub rows : FlowRows
  pub chosen : IsChosenCausalFlowOf g rows

-- the chosen stuck set, rising, and there is no causal flow
pub record HasChosenStuckSet (g : OpenGraph) : Type 0 where
  pub set : List ℕ
  pub chosen : IsChosenStuckSet g (is_member set)
  pub none : HasNoCausalFlow g
  pub inside : All (λ v. v < size g) set
  pub rising : IsRising set

abbrev pub CausalFlowsOrStuckSetsExist : Type 0
CausalFlowsOrStuckSetsExist = (g : OpenGraph) → HasChosenCausalFlow g ⊎ HasChosenStuckSet g

-- the rows of the bound of depth that is chosen for a flow
pub record HasChosenBound (g : OpenGraph) (f : FlowRows) : Type 0 where
  pub rows : BoundRows
  pub chosen : IsChosenBoundOf g f rows

abbrev pub ChosenFlowsHaveBounds : Type 0
ChosenFlowsHaveBounds = (g : OpenGraph) (f : FlowRows) → IsChosenFlowOf g f → HasChosenBound g f
