use Rattle.std.proofs.Common.{◌≡◌, ℕ, drop}
use Rattle.mc_model.specs.Bits.{◌⊻◌}
use Rattle.mc_model.specs.Numbers.{is_member}
use Rattle.mc_bits.specs.Words.{word_bit}
use Rattle.mc_standard.proofs.sum.flip_all.Given as goal

abbrev pub invariant-members : goal.invariant-members
invariant-members l = (k : ℕ) →
    (word_bit l.words k ⊻ is_member (drop l.i l.set) k)
    ≡ (word_bit l.fn.words k ⊻ is_member l.set k)
