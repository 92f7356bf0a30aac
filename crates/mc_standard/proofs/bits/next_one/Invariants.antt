use Rattle.std.proofs.Common.{◌≡◌, ℕ, ◌-◌, ◌<◌, ◌≤◌, false}
use Rattle.mc_bits.specs.Words.{word_bit}
use Rattle.mc_standard.proofs.bits.next_one.Given as goal

abbrev pub invariant-words : goal.invariant-words
invariant-words l = record {
  order : l.from ≤ l.place;
  none : (k : ℕ) → l.from ≤ k → k < l.place → word_bit l.words k ≡ false;
}

abbrev pub decreases-words : goal.decreases-words
decreases-words l = l.end - l.place
