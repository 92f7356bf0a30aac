-- What the translation of a circuit does.
use Rattle.std.specs.Prelude.{◌≡◌, ℕ, ◌+◌, ◌<◌, ◌≤◌, length}
use Rattle.mc_model.specs.Limits.{most_qubits}
use Rattle.mc_model.specs.Bits.{Bits}
use Rattle.mc_model.specs.Ring.{ring}
use Rattle.mc_model.specs.Pattern.{Circuit, HasNoConstants, Pattern, measured_order}
use Rattle.mc_model.specs.Amplitude.{HasTableAtEachBranch, j_count, pattern_scale, circuit_scale}
use Rattle.mc_model.specs.Valid.{IsValidPattern, IsValidCircuit, prepared}
use Rattle.mc_model.specs.Translation.{translation, qubit_count}
use Rattle.mc_model.specs.Graph.{graph_of}
use Rattle.mc_model.specs.Flow.{IsFlow, IsCausalFlow}

-- at every outcome list the branch map of a translation is the circuit's table
abbrev pub TranslationKeepsTable : Type 0
TranslationKeepsTable = (half : ℕ) → 0 < half → (c : Circuit) → IsValidCircuit c →
    HasTableAtEachBranch (ring half) c (translation half c)

-- the graph of every translation has a causal flow
abbrev pub TranslationsHaveCausalFlows : Type 0
TranslationsHaveCausalFlows = (half : ℕ) (c : Circuit) → IsValidCircuit c →
    (next : ℕ → ℕ) × (layer : ℕ → ℕ) × IsCausalFlow (graph_of half (translation half c)) next layer

-- so it has a flow
abbrev pub TranslationsHaveFlows : Type 0
TranslationsHaveFlows = (half : ℕ) (c : Circuit) → IsValidCircuit c →
    (sets : ℕ → Bits) × (layer : ℕ → ℕ) × IsFlow (graph_of half (translation half c)) sets layer

-- within 256 qubits a translation is a valid pattern
abbrev pub TranslationsAreValid : Type 0
TranslationsAreValid = (half : ℕ) (c : Circuit) → IsValidCircuit c → qubit_count c ≤ most_qubits →
    IsValidPattern (translation half c)

-- no signal of a translation has the constant
abbrev pub TranslationsHaveNoConstants : Type 0
TranslationsHaveNoConstants = (half : ℕ) (c : Circuit) →
    HasNoConstants (translation half c).commands

-- a qubit is prepared for each wire that is no input and for each `J`, and one is measured for each
-- `J`
pub record HasCountsOf (c : Circuit) (p : Pattern) : Type 0 where
  pub preparations : prepared p.commands ≡ circuit_scale c
  pub measurements : length (measured_order p.commands) ≡ j_count c.gates

abbrev pub TranslationCounts : Type 0
TranslationCounts = (half : ℕ) (c : Circuit) → HasCountsOf c (translation half c)

-- beside what scales the circuit's table, a translation has a measurement for each `J`
abbrev pub TranslationScale : Type 0
TranslationScale = (half : ℕ) (c : Circuit) →
    pattern_scale (translation half c) ≡ circuit_scale c + j_count c.gates
