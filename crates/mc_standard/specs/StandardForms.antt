-- The patterns that are their own standard form.
use Rattle.std.specs.Prelude.{◌≡◌, ℕ}
use Rattle.mc_model.specs.Pattern.{Pattern}
use Rattle.mc_model.specs.StandardForm.{standard_form}
use Rattle.mc_pattern.specs.Patterns.{IsPattern}

-- a valid pattern that is its own standard form
pub record IsStandardForm (half : ℕ) (p : Pattern) : Type 0 where
  pub pattern : IsPattern half p
  pub own : standard_form p ≡ p
