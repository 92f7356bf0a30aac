-- The laws of extracted circuits, over the amplitude ring with any `half` above 0.
use Rattle.std.specs.Prelude.{◌≡◌, ◌⊎◌, ℕ, ◌+◌, ◌-◌, ◌*◌, ◌<◌, ◌≤◌, Bool, false, List}
use Rattle.std.specs.Prelude.{length}
use Rattle.mc_model.specs.Phase.{turn, doubled}
use Rattle.mc_model.specs.Bits.{Bits}
use Rattle.mc_model.specs.Ring.{ring}
use Rattle.mc_model.specs.Pattern.{Circuit, Pattern, HasNoConstants}
use Rattle.mc_model.specs.Amplitude.{circuit_table, zero_branch, circuit_scale}
use Rattle.mc_model.specs.Valid.{IsValidPattern, IsValidCircuit}
use Rattle.mc_model.specs.Graph.{OpenGraph, size, is_output, IsOpenGraph, graph_of}
use Rattle.mc_model.specs.Graph.{fixed_corrections, zero_pattern}
use Rattle.mc_model.specs.Flow.{IsCausalFlow}
use Rattle.mc_model.specs.Choice.{IsChosenCausalFlow, IsChosenStuckSet}
use Rattle.mc_model.specs.Made.{extracted_circuit}
use Rattle.mc_graph.specs.Flows.{FlowRows, layer_in, next_in, IsCausalFlowOf}
use Rattle.mc_extract.specs.Rounds.{rest_after, layer_after, next_after, IsAllTaken}

-- whatever the causal flow, the circuit has the table that is the graph's zero branch, doubled for
-- each fixed correction
abbrev pub ExtractedCircuitHasTable : Type 0
ExtractedCircuitHasTable = (half : ℕ) → 0 < half → (g : OpenGraph) → IsOpenGraph g →
    (next layer : ℕ → ℕ) → IsCausalFlow g next layer → (y : List Bool) (b : Bits) →
    circuit_table (ring half) (extracted_circuit half g next layer) y b
    ≡ doubled (ring half) (length (fixed_corrections g))
    (zero_branch (ring half) (zero_pattern g) y b)

-- the circuit is valid
abbrev pub ExtractedCircuitsAreValid : Type 0
ExtractedCircuitsAreValid = (half : ℕ) (g : OpenGraph) → IsOpenGraph g →
    (next layer : ℕ → ℕ) → IsCausalFlow g next layer →
    IsValidCircuit (extracted_circuit half g next layer)

-- the circuit's scale is the number of vertices that are no inputs, and two for each fixed
-- correction
abbrev pub ExtractedCircuitScale : Type 0
ExtractedCircuitScale = (half : ℕ) (g : OpenGraph) → IsOpenGraph g →
    (next layer : ℕ → ℕ) → IsCausalFlow g next layer →
    circuit_scale (extracted_circuit half g next layer)
    ≡ (size g - g.inputs) + 2 * length (fixed_corrections g)

-- a gate for each edge, and two for each fixed correction
abbrev pub ExtractedGatesAreEdges : Type 0
ExtractedGatesAreEdges = (half : ℕ) (g : OpenGraph) → IsOpenGraph g →
    (next layer : ℕ → ℕ) → IsCausalFlow g next layer →
    (length (extracted_circuit half g next layer).gates
    ≡ length g.edges + 2 * length (fixed_corrections g))
    × (length g.edges ≤ 32640)

-- the fixed corrections of a pattern's graph
abbrev pub fixed_count : ℕ → Pattern → ℕ
fixed_count half p = length (fixed_corrections (graph_of half p))

-- what is extracted from a pattern by a causal flow of its graph: a valid circuit, whose table is
-- the pattern's zero branch, up to one power of `w`, doubled for each fixed correction; without
-- constants that power is 1 and there are no fixed corrections
pub record IsExtractedFrom (half : ℕ) (p : Pattern) (c : Circuit) : Type 0 where
  pub valid : IsValidCircuit c
  pub scale : circuit_scale c ≡ (length p.names - p.inputs) + 2 * fixed_count half p
  pub phase : ℕ
  pub within : phase < 2 * half
  pub same : (y : List Bool) (b : Bits) →
      circuit_table (ring half) c y b
      ≡ turn (ring half) phase
      (doubled (ring half) (fixed_count half p) (zero_branch (ring half) p y b))
  pub exact : HasNoConstants p.commands → (phase ≡ 0) × (fixed_count half p ≡ 0)

abbrev pub CircuitsAreExtracted : Type 0
CircuitsAreExtracted = (half : ℕ) → 0 < half → (p : Pattern) → IsValidPattern p →
    (next layer : ℕ → ℕ) → IsCausalFlow (graph_of half p) next layer →
    IsExtractedFrom half p (extracted_circuit half (graph_of half p) next layer)

-- the first members of the sets of a causal flow are its nexts
abbrev pub FirstMembersAreNexts : Type 0
FirstMembersAreNexts = (g : OpenGraph) (f : FlowRows) → IsCausalFlowOf g f →
    IsCausalFlow g (next_in f.rows) (layer_in f.rows)

-- ---- the finder

-- the rounds leave no vertex, and then their layers and nexts are the chosen causal flow; or they
-- leave the chosen stuck set, and there is no causal flow
abbrev pub RoundsFindCausalFlow : Type 0
RoundsFindCausalFlow = (g : OpenGraph) →
    (IsAllTaken g (size g) × IsChosenCausalFlow g (next_after g (size g)) (layer_after g (size g)))
    ⊎ (IsChosenStuckSet g (rest_after g (size g))
    × ((next layer : ℕ → ℕ) → IsCausalFlow g next layer → ⊥))

-- a chosen causal flow is a causal flow
abbrev pub ChosenCausalFlowsAreFlows : Type 0
ChosenCausalFlowsAreFlows = (g : OpenGraph) (next layer : ℕ → ℕ) →
    IsChosenCausalFlow g next layer → IsCausalFlow g next layer

-- there is at most one: its layers, and its nexts where a vertex is measured
abbrev pub ChosenCausalFlowsAreUnique : Type 0
ChosenCausalFlowsAreUnique = (g : OpenGraph) (next layer next' layer' : ℕ → ℕ) →
    IsChosenCausalFlow g next layer → IsChosenCausalFlow g next' layer' →
    ((v : ℕ) → v < size g → layer v ≡ layer' v)
    × ((u : ℕ) → u < size g → is_output g u ≡ false → next u ≡ next' u)

-- there is at most one chosen stuck set
abbrev pub ChosenStuckSetsAreUnique : Type 0
ChosenStuckSetsAreUnique = (g : OpenGraph) (B C : Bits) → IsChosenStuckSet g B →
    IsChosenStuckSet g C → (v : ℕ) → v < size g → B v ≡ C v
