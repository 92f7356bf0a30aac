use Rattle.std.proofs.Common.{◌≡◌, ◌++◌, map, take}
use Rattle.mc_compose.specs.Placing.{placed_in_row}
use Rattle.mc_compose.proofs.placing.push_qubits.Given as goal

abbrev pub invariant-qubits : goal.invariant-qubits
invariant-qubits l =
    l.qubits.items
    ≡ l.initial.qubits.items
    ++ map (placed_in_row l.inputs l.others) (take l.q-index l.part)
