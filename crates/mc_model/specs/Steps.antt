-- Angles are whole steps of a turn.
use Rattle.std.specs.Prelude.{ℕ, Bool, ◌==◌, ◌||◌}

-- the steps in half a turn that there may be: four or eight, so that a step is an eighth or a
-- sixteenth of a turn
abbrev pub is_permitted : ℕ → Bool
is_permitted half = half == 4 || half == 8
