use Rattle.std.proofs.Common.{◌≡◌, ◌≤◌, drop, length}
use Rattle.mc_model.specs.Bits.{bits_of}
use Rattle.mc_model.specs.Amplitude.{placed}
use Rattle.mc_run_text.proofs.outcomes.set_outcomes.Given as goal

abbrev pub invariant-qubits : goal.invariant-qubits
invariant-qubits l = record {
  within : l.left ≤ length l.qubits;
  long : length l.values ≡ length l.fn.values;
  bits : bits_of l.values ≡ placed (drop l.left l.qubits) (drop l.left l.outcomes);
}

abbrev pub decreases-qubits : goal.decreases-qubits
decreases-qubits l = l.left
