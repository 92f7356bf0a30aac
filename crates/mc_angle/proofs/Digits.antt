-- The value of digits, read from the front.
use Rattle.std.proofs.Common.{◌≡◌, ℕ, ◌+◌, ◌-◌, ◌*◌, ◌^◌, ◌<◌, ◌≤◌, List, [], ◌∷◌}
use Rattle.std.proofs.Common.{◌++◌, Bool, true}
use Rattle.std.proofs.Common.{false, length, refl, arith, add-one, length-append, slice_index_or}
use Rattle.std.proofs.Common.{IsTrue}
use Rattle.std.specs.List.{list_all}
use Rattle.std.proofs.lemmas.List.Folds.{list_all_at}
use Rattle.std.proofs.Math.Nat.{pow-succ'}
use Rattle.std.proofs.lemmas.Bool.Decides.{nat_tests}
use Rattle.mc_angle.specs.Number.{is_digit, is_number, number_of}

next_power : (n : ℕ) → 10 ^ (n + 1) ≡ 10 * 10 ^ n
next_power n = rw (add-one n, pow-succ' 10 n) refl

first_digit : (d m n b : ℕ) → d * (10 * m) + (10 * n + b) ≡ 10 * (d * m + n) + b
first_digit d m n b = grind arith

-- one more digit behind
pub number_of-push : (bs : List ℕ) (b : ℕ) → number_of (bs ++ b ∷ []) ≡ 10 * number_of bs + (b - 48)
number_of-push [] b = omega arith
number_of-push (x ∷ bs) b =
    let size : length (bs ++ b ∷ []) ≡ length bs + 1 = length-append bs (b ∷ []) in
    rw (size, next_power (length bs), number_of-push bs b)
    (first_digit (x - 48) (10 ^ length bs) (number_of bs) (b - 48))

-- with one more digit it stays below the next power of ten
pub next_small : (n sum d : ℕ) → sum < 10 ^ n → d ≤ 9 → 10 * sum + d < 10 ^ (n + 1)
next_small n sum d small digit = let e = next_power n in omega arith

-- the value of a digit is at most 9
digit_within : (b : ℕ) → is_digit b ≡ true → b - 48 ≤ 9
digit_within b e = grind (arith, nat_tests)

digit_by : (bs : List ℕ) (i : ℕ) (t : Bool) → i < length bs → is_digit (slice_index_or bs i 0) ≡ t
    → list_all is_digit bs ≡ true → slice_index_or bs i 0 - 48 ≤ 9
digit_by bs i true lt e all = digit_within (slice_index_or bs i 0) e
digit_by bs i false lt e all = let none = list_all_at is_digit bs i 0 lt e in absurd (cc none)

pub digit_at : (bs : List ℕ) (i : ℕ) → IsTrue (is_number bs) → i < length bs
    → slice_index_or bs i 0 - 48 ≤ 9
digit_at bs i number lt =
    let all : list_all is_digit bs ≡ true = grind (arith, nat_tests) in
    digit_by bs i (is_digit (slice_index_or bs i 0)) lt refl all
