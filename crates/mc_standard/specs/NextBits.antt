-- The next place with the bit 1.
use Rattle.std.specs.Prelude.{◌≡◌, ℕ, ◌<◌, ◌≤◌, true, false}
use Rattle.mc_model.specs.Bits.{Bits}

-- the first place from `from` on with the bit 1, or `end` where there is none before it
pub record IsNext (f : Bits) (from end place : ℕ) : Type 0 where
  pub order : from ≤ place
  pub within : place ≤ end
  pub none : (k : ℕ) → from ≤ k → k < place → f k ≡ false
  pub one : place < end → f place ≡ true
