-- Words that spell numbers.
use Rattle.std.specs.Prelude.{ℕ, ◌+◌, ◌-◌, ◌*◌, ◌^◌, List, [], ◌∷◌, Bool, nat_le, ◌&&◌, length}
use Rattle.std.specs.List.{list_all}

abbrev pub is_digit : ℕ → Bool
is_digit b = nat_le 48 b && nat_le b 57

-- 1 to 4 digits
abbrev pub is_number : List ℕ → Bool
is_number word = nat_le 1 (length word) && nat_le (length word) 4 && list_all is_digit word

-- each digit counts its power of ten, the last one counts one
abbrev pub number_of : List ℕ → ℕ
number_of [] = 0
number_of (b ∷ bs) = (b - 48) * 10 ^ length bs + number_of bs
