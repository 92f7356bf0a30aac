-- What is compiled from a circuit: the shifted form of the standard form of the pattern that is
-- made from the chosen flow of the graph of the circuit's translation.
use Rattle.std.specs.Prelude.{◌≡◌, ℕ, ◌+◌, ◌*◌, ◌<◌, ◌≤◌, Bool, List}
use Rattle.mc_model.specs.Limits.{most_qubits}
use Rattle.mc_model.specs.Phase.{turn}
use Rattle.mc_model.specs.Bits.{Bits}
use Rattle.mc_model.specs.Ring.{ring}
use Rattle.mc_model.specs.Pattern.{Circuit, Pattern}
use Rattle.mc_model.specs.Amplitude.{branch_map, zero_branch, circuit_table, j_count, pattern_scale}
use Rattle.mc_model.specs.Amplitude.{circuit_scale}
use Rattle.mc_model.specs.Valid.{IsValidPattern, IsValidCircuit}
use Rattle.mc_model.specs.Translation.{translation, qubit_count}
use Rattle.mc_model.specs.StandardForm.{standard_form}
use Rattle.mc_model.specs.Shift.{IsShiftedForm, HasNoSecondSignals}
use Rattle.mc_model.specs.Graph.{OpenGraph, graph_of}
use Rattle.mc_model.specs.Flow.{IsFlow, depth_of}
use Rattle.mc_model.specs.Choice.{IsChosenFlow}
use Rattle.mc_model.specs.Made.{flow_pattern}
use Rattle.mc_model.specs.Depth.{IsDependenceDepth}

-- one power of `w` takes every entry of the circuit's table to that of the branch map
pub record HasTable (half : ℕ) (q : Pattern) (o : Bits) (c : Circuit) : Type 0 where
  pub phase : ℕ
  pub within : phase < 2 * half
  pub same : (y : List Bool) (b : Bits) →
      branch_map (ring half) q o y b ≡ turn (ring half) phase (circuit_table (ring half) c y b)

-- the graph of a circuit is that of its translation
abbrev pub circuit_graph : ℕ → Circuit → OpenGraph
circuit_graph half c = graph_of half (translation half c)

-- a valid pattern in standard and shifted form, every branch of which has the table of the circuit,
-- the zero branch exactly, with a measurement for each `J` beside what scales the table, and which
-- is no deeper than any flow of the circuit's graph
pub record IsCompiled (half : ℕ) (c : Circuit) (q : Pattern) : Type 0 where
  pub valid : IsValidPattern q
  pub standard : standard_form q ≡ q
  pub no_second : HasNoSecondSignals q.commands
  pub alike : (o : Bits) → HasTable half q o c
  pub zero : (y : List Bool) (b : Bits) →
      zero_branch (ring half) q y b ≡ circuit_table (ring half) c y b
  pub scale : pattern_scale q ≡ circuit_scale c + j_count c.gates
  pub shallow : (sets : ℕ → Bits) (layer : ℕ → ℕ) → IsFlow (circuit_graph half c) sets layer →
      (d : ℕ) → IsDependenceDepth q.commands d → d ≤ depth_of (circuit_graph half c) layer

-- a circuit within 256 qubits is compiled
abbrev pub CompiledCircuits : Type 0
CompiledCircuits = (half : ℕ) → 0 < half → (c : Circuit) → IsValidCircuit c →
    qubit_count c ≤ most_qubits → (sets : ℕ → Bits) (layer : ℕ → ℕ) →
    IsChosenFlow (circuit_graph half c) sets layer → (q : Pattern) →
    IsShiftedForm (standard_form (flow_pattern (circuit_graph half c) sets layer)) q →
    IsCompiled half c q
