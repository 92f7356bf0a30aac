use Rattle.std.proofs.Common.{take}
use Rattle.mc_pattern.proofs.Members.{IsSeen}
use Rattle.mc_pattern.proofs.outputs.has_twice.Given as goal

abbrev pub invariant-qubits : goal.invariant-qubits
invariant-qubits l = IsSeen (take l.q-index l.qubits) l.seen
