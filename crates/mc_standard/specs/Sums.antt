-- Sums of signals in words of bits.
use Rattle.std.specs.Prelude.{◌≡◌, ℕ, Bool, ◌&&◌, nat_lt, List}
use Rattle.mc_model.specs.Numbers.{numbers_where, is_member}
use Rattle.mc_model.specs.Signals.{Signal}
use Rattle.mc_bits.specs.Words.{word_bit}

-- the signal whose members are the numbers whose bits are 1
unfoldable pub summed : List ℕ → Bool → Signal
summed words constant = record {
  members = numbers_where (word_bit words) 256;
  constant = constant;
}

-- the set has the numbers below `n` whose bits are 1
pub record HasBelow (words : List ℕ) (n : ℕ) (set : List ℕ) : Type 0 where
  pub at : (k : ℕ) → is_member set k ≡ (nat_lt k n && word_bit words k)
