use Rattle.std.proofs.Common.{◌≡◌, map, take}
use Rattle.mc_translate.specs.Steps.{qubit_of}
use Rattle.mc_translate.proofs.wires.qubits_of.Given as goal

abbrev pub invariant-wires : goal.invariant-wires
invariant-wires l = l.qubits.items ≡ map (qubit_of l.at) (take l.v-index l.wires)
