use Rattle.std.proofs.Common.{◌≡◌, ℕ, ◌<◌, drop, length}
use Rattle.mc_model.specs.Bits.{◌⊻◌}
use Rattle.mc_model.specs.Numbers.{is_member}
use Rattle.mc_bits.specs.Rows.{bit_of}
use Rattle.mc_elim.proofs.members.row_of.Given as goal

abbrev pub invariant-members : goal.invariant-members
invariant-members l = record {
  bits : (k : ℕ) → k < l.bits →
      (bit_of l.row k ⊻ is_member (drop l.i l.set) k) ≡ is_member l.set k;
  length : length l.row ≡ l.bits;
}
