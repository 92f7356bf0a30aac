-- `lower`: the circuit of `J` and CZ gates of a list of gates.
use Rattle.std.specs.Prelude.{◌≡◌, ◌+◌, ◌*◌, ◌^◌, pos, nat_lt, if◌then◌else◌, codes, List, Bool}
use Rattle.std.specs.Prelude.{Option, None, Some, IsSomeAnd}
use Rattle.std.specs.Option.{option_map}
use Rattle.mc_lex.specs.declared.end.TextEnd.{TextEnd}
use Rattle.mc_lex.specs.declared.end.TextEnd.TheVariants as end
use Rattle.mc_model.specs.Bits.{Bits}
use Rattle.mc_model.specs.Limits.{most_gates}
use Rattle.mc_model.specs.Ring.{ring, scaled}
use Rattle.mc_model.specs.Amplitude.{circuit_table, circuit_scale}
use Rattle.mc_circuit.specs.Circuits.{IsCircuit}
use Rattle.mc_circuit.specs.Canonical.{circuit_text}
use Rattle.mc_gates.specs.Gates.{GateList, gate_table, gate_scale}
use Rattle.mc_gates.specs.Lowering.{lowered, lowered_count, doubling_count}
use Rattle.mc_document.specs.Documents.{PlainDocument, gates_in}
use Rattle.mc_document.specs.Documents.{only_gates}
use Rattle.mc_top.specs.Due.{Due, due_unless, holding}
use Rattle.mc_top.specs.Command.{Command}

-- a circuit has at most 32,768 gates
abbrev pub lowering_limit : GateList → Option TextEnd
lowering_limit g =
    if nat_lt most_gates (lowered_count g.ops) then Some (end.Limit 3 (lowered_count g.ops))
    else None

-- the text of the circuit, whose angles are in eighths of a turn
abbrev pub due_lowering : GateList → Due
due_lowering g = due_unless (lowering_limit g) (holding (circuit_text 4 (lowered g)))

abbrev pub due_lower : PlainDocument → Option Due
due_lower d = option_map due_lowering (gates_in d)

-- the circuit is valid, and its table is `2 ^ m` times that of the gate list; a physical amplitude
-- is an entry over the root of two to the scale, which is greater by `2 * m`, so the physical
-- tables are equal
pub record HasGateTable (g : GateList) : Type 0 where
  pub valid : IsCircuit 4 (lowered g)
  pub table : (y : List Bool) (b : Bits) → (circuit_table (ring 4) (lowered g) y b).coefficients
      ≡ scaled (pos (2 ^ doubling_count g.ops)) (gate_table (ring 4) g y b).coefficients
  pub scale : circuit_scale (lowered g) ≡ gate_scale g + 2 * doubling_count g.ops

abbrev pub MeansLower : PlainDocument → Type 0
MeansLower d = IsSomeAnd (gates_in d) HasGateTable

abbrev pub lower_command : Command
lower_command = record {
  word = codes "lower";
  takes = only_gates;
  IsDue = λ half place d due. due_lower d ≡ Some due;
  Means = λ half d. MeansLower d;
}
