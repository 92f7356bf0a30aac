-- Elements of the amplitude ring that are in range.
use Rattle.std.specs.Prelude.{◌≡◌, ℕ, List, ℤ, IsTrue, length}
use Rattle.mc_model.specs.Steps.{is_permitted}
use Rattle.mc_cyclo.specs.Height.{IsInRange}

-- the coefficients of an element
abbrev pub IsLong : ℕ → List ℤ → Type 0
IsLong half a = length a ≡ half

-- what every value of the type holds
pub record IsCyclo (half : ℕ) (a : List ℤ) : Type 0 where
  pub permitted : IsTrue (is_permitted half)
  pub long : IsLong half a
  pub in_range : IsInRange a
