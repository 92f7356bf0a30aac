-- What a circuit is compiled into.
use Rattle.std.specs.Prelude.{◌≡◌, ℕ, length}
use Rattle.mc_model.specs.Bits.{Bits}
use Rattle.mc_model.specs.Pattern.{Circuit, Pattern}
use Rattle.mc_model.specs.Translation.{translation}
use Rattle.mc_model.specs.StandardForm.{standard_form}
use Rattle.mc_model.specs.Shift.{IsShiftedForm}
use Rattle.mc_model.specs.Graph.{graph_of}
use Rattle.mc_model.specs.Flow.{depth_of}
use Rattle.mc_model.specs.Choice.{IsChosenFlow}
use Rattle.mc_model.specs.Made.{flow_pattern}

-- the shifted form of the standard form of the pattern that is made from the chosen flow of a
-- pattern's graph, the number of the graph's edges, and the depth of the flow
pub record IsRemade (half : ℕ) (p q : Pattern) (edges depth : ℕ) : Type 0 where
  pub sets : ℕ → Bits
  pub layer : ℕ → ℕ
  pub chosen : IsChosenFlow (graph_of half p) sets layer
  pub form : IsShiftedForm (standard_form (flow_pattern (graph_of half p) sets layer)) q
  pub edge_count : edges ≡ length (graph_of half p).edges
  pub flow_depth : depth ≡ depth_of (graph_of half p) layer

-- what is remade from the circuit's translation
abbrev pub IsCompilation : ℕ → Circuit → Pattern → ℕ → ℕ → Type 0
IsCompilation half c q edges depth = IsRemade half (translation half c) q edges depth
