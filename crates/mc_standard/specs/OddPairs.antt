-- A table of bits in words, one for each pair of numbers below 256, the lower one first.
use Rattle.std.specs.Prelude.{ℕ, ◌+◌, ◌*◌, Bool, List}
use Rattle.mc_bits.specs.Words.{word_bit}

abbrev pub is_odd : List ℕ → ℕ → ℕ → Bool
is_odd words i j = word_bit words (i * 256 + j)
