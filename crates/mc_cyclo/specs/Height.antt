-- The height of a list of whole numbers: its greatest absolute value.
use Rattle.std.specs.Prelude.{ℕ, ◌^◌, ◌≤◌, max, ℤ, List, [], ◌∷◌}
use Rattle.std.specs.Int.RustNames.{unsigned_abs}

abbrev pub height : List ℤ → ℕ
height [] = 0
height (x ∷ xs) = max (unsigned_abs x) (height xs)

-- each number is at most `2 ^ 60` in absolute value
abbrev pub IsInRange : List ℤ → Type 0
IsInRange a = height a ≤ 2 ^ 60
