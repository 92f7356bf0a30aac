-- What is proved of lowered gate lists.
use Rattle.std.specs.Prelude.{◌≡◌, ℕ, ◌+◌, ◌*◌, ◌^◌, ◌≤◌, pos, Bool, List, length}
use Rattle.mc_model.specs.Bits.{Bits}
use Rattle.mc_model.specs.Ring.{Element, ring, scaled}
use Rattle.mc_model.specs.Amplitude.{circuit_table, circuit_scale}
use Rattle.mc_model.specs.Valid.{IsValidCircuit}
use Rattle.mc_circuit.specs.Circuits.{IsCircuit}
use Rattle.mc_gates.specs.Gates.{GateList, IsValidGateList, gate_table, gate_scale}
use Rattle.mc_gates.specs.Lowering.{lowered, lowered_count, doubling_count}
use Rattle.mc_model.specs.Phase.{doubled}

-- the table of the lowered circuit is a power of two times that of the gate list
abbrev pub LoweringKeepsTable : Type 0
LoweringKeepsTable = (g : GateList) → IsValidGateList g → (y : List Bool) (b : Bits) →
    circuit_table (ring 4) (lowered g) y b
    ≡ doubled (ring 4) (doubling_count g.ops) (gate_table (ring 4) g y b)

-- `doubled n` is `2 ^ n` times
abbrev pub DoublingsArePowers : Type 0
DoublingsArePowers = (half n : ℕ) (x : Element half) →
    (doubled (ring half) n x).coefficients ≡ scaled (pos (2 ^ n)) x.coefficients

-- so that the physical tables are equal, the root of two to twice the power being its square
abbrev pub LoweringKeepsScale : Type 0
LoweringKeepsScale = (g : GateList) →
    circuit_scale (lowered g) ≡ gate_scale g + 2 * doubling_count g.ops

abbrev pub LoweredCircuitsAreValid : Type 0
LoweredCircuitsAreValid = (g : GateList) → IsValidGateList g → IsValidCircuit (lowered g)

abbrev pub LoweredGatesAreCounted : Type 0
LoweredGatesAreCounted = (g : GateList) → length (lowered g).gates ≡ lowered_count g.ops

-- within 32,768 gates it is a circuit that the code holds
abbrev pub LoweredCircuitsAreHeld : Type 0
LoweredCircuitsAreHeld = (g : GateList) → IsValidGateList g → lowered_count g.ops ≤ 32768 →
    IsCircuit 4 (lowered g)
