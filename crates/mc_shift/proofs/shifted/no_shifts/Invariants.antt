use Rattle.std.proofs.Common.{◌≡◌, length}
use Rattle.mc_shift.proofs.shifted.no_shifts.Given as goal

abbrev pub invariant-qubits : goal.invariant-qubits
invariant-qubits l = length l.shifts.items ≡ l.counter
