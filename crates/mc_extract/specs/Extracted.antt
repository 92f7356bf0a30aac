-- What an extracted circuit is.
use Rattle.std.specs.Prelude.{◌≡◌, ℕ, ◌+◌, ◌-◌, ◌*◌, Bool, List, length}
use Rattle.mc_model.specs.Phase.{doubled}
use Rattle.mc_model.specs.Bits.{Bits}
use Rattle.mc_model.specs.Ring.{ring}
use Rattle.mc_model.specs.Pattern.{Circuit}
use Rattle.mc_model.specs.Amplitude.{circuit_table, zero_branch, circuit_scale}
use Rattle.mc_model.specs.Valid.{IsValidCircuit}
use Rattle.mc_model.specs.Graph.{OpenGraph, size, fixed_corrections, zero_pattern}

-- how many gates are extracted: one for each edge, and two for each fixed correction
abbrev pub gate_count : OpenGraph → ℕ
gate_count g = length g.edges + 2 * length (fixed_corrections g)

-- a valid circuit with the graph's zero branch for its table, doubled for each fixed correction
pub record HasZeroBranch (half : ℕ) (g : OpenGraph) (c : Circuit) : Type 0 where
  pub valid : IsValidCircuit c
  pub gates : length c.gates ≡ gate_count g
  pub scale : circuit_scale c ≡ (size g - g.inputs) + 2 * length (fixed_corrections g)
  pub same : (y : List Bool) (b : Bits) →
      circuit_table (ring half) c y b
      ≡ doubled (ring half) (length (fixed_corrections g))
      (zero_branch (ring half) (zero_pattern g) y b)
