-- Rows as lists of bits.
use Rattle.std.specs.Prelude.{ℕ, Bool, false, not, List, [], ◌∷◌, ◌++◌, length, map, take, drop}
use Rattle.std.specs.Prelude.{slice_index_or, slice_set}
use Rattle.std.specs.List.{range_with_len}
use Rattle.mc_model.specs.Bits.{Bits, ◌⊻◌}
use Rattle.mc_bits.specs.Words.{word_bit}

-- the first `n` bits of the words: what stands behind them counts for nothing
abbrev pub row_of : ℕ → List ℕ → List Bool
row_of n words = map (word_bit words) (range_with_len 0 n)

-- the bit at each place, and 0 behind the row's end
abbrev pub bit_of : List Bool → Bits
bit_of row = λ k. slice_index_or row k false

-- the row with the bit `k` changed
abbrev pub flipped : ℕ → List Bool → List Bool
flipped k row = slice_set row k (not (bit_of row k))

-- the sum of two rows of one length, bit by bit
abbrev pub row_sum : List Bool → List Bool → List Bool
row_sum [] other = []
row_sum (b ∷ row) [] = b ∷ row
row_sum (b ∷ row) (c ∷ other) = (b ⊻ c) ∷ row_sum row other

-- a list as it is once its items were written: they are as many as before
abbrev pub refilled : {A : Type 0} → List A → List A → List A
refilled items written = take (length items) (written ++ drop (length written) items)
