use Rattle.std.proofs.Common.{◌≡◌, ◌-◌, ◌<◌, ◌≤◌, true}
use Rattle.mc_bits.specs.Words.{word_bit}
use Rattle.mc_standard.specs.Sums.{HasBelow}
use Rattle.mc_standard.proofs.sum.members_of.Given as goal

abbrev pub invariant-members : goal.invariant-members
invariant-members l = record {
  within : l.q ≤ 256;
  one : l.q < 256 → word_bit l.words l.q ≡ true;
  below : HasBelow l.words l.q l.set;
}

abbrev pub decreases-members : goal.decreases-members
decreases-members l = 256 - l.q
