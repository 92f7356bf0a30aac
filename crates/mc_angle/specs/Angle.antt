-- Angles as steps, of which `h` make half a turn, and the words that spell them.
use Rattle.std.specs.Prelude.{ℕ, ◌*◌, ℤ, pos, neg_ℤ, List, [], ◌∷◌, Bool, ◌==◌, unsigned_abs}
use Rattle.std.specs.Prelude.{if◌then◌else◌}
use Rattle.std.specs.Int.{int_rem_euclid}
use Rattle.mc_angle.specs.Number.{is_number, number_of}

-- a whole number of steps, reduced modulo a turn
abbrev pub steps_of : ℕ → ℤ → ℕ
steps_of h steps = unsigned_abs (int_rem_euclid steps (pos (2 * h)))

-- 1 to 4 digits, with or without a `-` in front
abbrev pub is_angle : List ℕ → Bool
is_angle [] = is_number []
is_angle (b ∷ bs) = if b == 45 then is_number bs else is_number (b ∷ bs)

-- the whole number that such a word spells
abbrev pub signed_number_of : List ℕ → ℤ
signed_number_of [] = pos 0
signed_number_of (b ∷ bs) = if b == 45 then neg_ℤ (pos (number_of bs)) else pos (number_of (b ∷ bs))

-- the steps of the angle that a word spells
abbrev pub angle_of : ℕ → List ℕ → ℕ
angle_of h word = steps_of h (signed_number_of word)
