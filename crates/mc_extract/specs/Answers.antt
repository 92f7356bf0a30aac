-- What the finder answers.
use Rattle.std.specs.Prelude.{ℕ, ◌<◌, List, All}
use Rattle.mc_model.specs.Numbers.{is_member}
use Rattle.mc_model.specs.Graph.{OpenGraph, size}
use Rattle.mc_model.specs.Flow.{IsCausalFlow}
use Rattle.mc_model.specs.Choice.{IsChosenStuckSet}
use Rattle.mc_graph.specs.Flows.{FlowRows, IsCausalFlowOf, IsChosenCausalFlowOf}
use Rattle.mc_extract.specs.declared.causal.Causal.{Causal}
use Rattle.mc_extract.specs.declared.causal.Causal.TheVariants as causal

-- no nexts and layers are a causal flow
abbrev pub HasNoCausalFlow : OpenGraph → Type 0
HasNoCausalFlow g = (next layer : ℕ → ℕ) → IsCausalFlow g next layer → ⊥

-- the chosen causal flow, which is a causal flow
pub record IsFoundFlow (g : OpenGraph) (f : FlowRows) : Type 0 where
  pub chosen : IsChosenCausalFlowOf g f
  pub flow : IsCausalFlowOf g f

-- the chosen stuck set, of vertices, where there is no causal flow
pub record IsFoundStuck (g : OpenGraph) (s : List ℕ) : Type 0 where
  pub chosen : IsChosenStuckSet g (is_member s)
  pub vertices : All (λ v. v < size g) s
  pub no_flow : HasNoCausalFlow g

abbrev pub IsAnswer : OpenGraph → Causal → Type 0
IsAnswer g (causal.Flow f) = IsFoundFlow g f
IsAnswer g (causal.Stuck s) = IsFoundStuck g s
