use Rattle.std.proofs.Common.{◌≡◌, ◌+◌, ◌*◌, ◌<◌, ℕ, length}
use Rattle.mc_bits.specs.Words.{word_bit}
use Rattle.mc_bits.proofs.words.words_from.Given as goal

abbrev pub invariant-words : goal.invariant-words
invariant-words l = record {
  length : length l.moved ≡ 16;
  done : (k : ℕ) → k < 64 * l.i → word_bit l.moved k ≡ word_bit l.words (l.low + k);
}
