use Rattle.std.proofs.Common.{◌≡◌, ℕ, ◌<◌, ◌||◌, true}
use Rattle.mc_model.specs.Bits.{bits_of}
use Rattle.mc_model.specs.Numbers.{is_member}
use Rattle.mc_pattern_text.proofs.steps.settles.Given as goal

abbrev pub invariant-qubits : goal.invariant-qubits
invariant-qubits l = (k : ℕ) → k < l.q → bits_of l.marks k || is_member l.numbers k ≡ true
