use Rattle.std.proofs.Common.{◌+◌, ◌*◌, ◌<◌, ◌≤◌}
use Rattle.mc_bits.specs.Words.{word_bit, HasNoBit}
use Rattle.mc_bits.proofs.words.next_in.Given as goal

abbrev pub invariant-words : goal.invariant-words
invariant-words l = record {
  none : HasNoBit (word_bit l.words) l.low (64 * l.i + l.from);
  above : l.low ≤ 64 * l.i + l.from;
  small : l.from < 64;
}
