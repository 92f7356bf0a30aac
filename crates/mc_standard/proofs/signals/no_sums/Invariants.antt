use Rattle.std.proofs.Common.{◌≡◌, length}
use Rattle.mc_rules.specs.OnePass.{none_carried}
use Rattle.mc_standard.specs.Running.{signals_of}
use Rattle.mc_standard.proofs.signals.no_sums.Given as goal

abbrev pub invariant-qubits : goal.invariant-qubits
invariant-qubits l =
    (length l.sums.items ≡ l.counter) × (signals_of l.sums.items ≡ none_carried)
