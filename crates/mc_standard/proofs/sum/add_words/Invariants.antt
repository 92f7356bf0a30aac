use Rattle.std.proofs.Common.{◌≡◌, ℕ, ◌<◌, ◌≤◌, slice_index_or}
use Rattle.std.specs.Prelude.{bit_xor}
use Rattle.mc_standard.proofs.sum.add_words.Given as goal

abbrev pub invariant-words : goal.invariant-words
invariant-words l = record {
  done : (j : ℕ) → j < l.i →
      slice_index_or l.to j 0 ≡ bit_xor (slice_index_or l.fn.to j 0) (slice_index_or l.from j 0);
  left : (j : ℕ) → l.i ≤ j → slice_index_or l.to j 0 ≡ slice_index_or l.fn.to j 0;
}
