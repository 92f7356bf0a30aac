use Rattle.std.proofs.Common.{◌≡◌, ℕ, ◌<◌, false}
use Rattle.mc_model.specs.Bits.{bits_of}
use Rattle.mc_pattern.specs.Rules.{is_missing}
use Rattle.mc_pattern.proofs.outputs.has_missing.Given as goal

abbrev pub invariant-qubits : goal.invariant-qubits
invariant-qubits l = (k : ℕ) → k < l.q → is_missing (bits_of l.marks) l.qubits k ≡ false
