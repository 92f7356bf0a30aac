-- Numbers in decimal are read as they are.
use Rattle.std.proofs.Common.{◌≡◌, ℕ, ◌+◌, ◌-◌, ◌*◌, ◌/◌, ◌%◌, ◌^◌, ◌<◌, ◌≤◌, List}
use Rattle.std.proofs.Common.{[], ◌∷◌, ◌++◌}
use Rattle.std.proofs.Common.{Bool, true, false, ◌&&◌, ◌==◌, nat_le, pos, length, refl}
use Rattle.std.proofs.Common.{◌∙◌, arith, IsTrue, mod-eq_of_lt}
use Rattle.std.specs.Fmt.{decimal}
use Rattle.std.specs.List.{list_all}
use Rattle.std.proofs.lemmas.Bool.Decides.{nat_tests}
use Rattle.std.proofs.lemmas.Fmt.{decimal_by_steps, decimal_nonempty, length-decimal-le}
use Rattle.std.proofs.lemmas.List.Folds.{list_all-append}
use Rattle.mc_model.specs.Steps.{is_permitted}
use Rattle.mc_model.proofs.StepLemmas.{permitted_at_most}
use Rattle.mc_angle.specs.Number.{is_digit, is_number, number_of}
use Rattle.mc_angle.specs.Angle.{is_angle, signed_number_of, angle_of}
use Rattle.mc_angle.proofs.Digits.{number_of-push}

-- digits, of this value
record IsNumeral (n : ℕ) (ds : List ℕ) : Type 0 where
  digits : list_all is_digit ds ≡ true
  value : number_of ds ≡ n

digit_test : (d : ℕ) → d < 10 → is_digit (48 + d) ≡ true
digit_test d lt = grind (arith, nat_tests)

one_digit : (n : ℕ) → n < 10 → IsNumeral n ((48 + n) ∷ [])
one_digit n lt = record { digits = rw (digit_test n lt) refl; value = omega arith }

more_digits : (n : ℕ) (ds : List ℕ) → 10 ≤ n → IsNumeral (n / 10) ds
    → IsNumeral n (ds ++ (48 + n % 10) ∷ [])
more_digits n ds le h =
    let small : n % 10 < 10 = omega arith in
    let test = digit_test (n % 10) small in
    let push = number_of-push ds (48 + n % 10) in
    record {
      digits = list_all-append is_digit ds ((48 + n % 10) ∷ []) ∙ rw (h.digits, test) refl;
      value = push ∙ rw h.value (omega arith);
    }

decimal_numeral : (n : ℕ) → n < 2 ^ 64 → IsNumeral n (decimal n)
decimal_numeral n fits = decimal_by_steps IsNumeral one_digit more_digits n fits

-- a number of at most four digits
pub number-decimal : (n : ℕ) → n < 10000
    → (is_number (decimal n) ≡ true) × (number_of (decimal n) ≡ n)
number-decimal n lt =
    let h = decimal_numeral n (omega arith) in
    let some = decimal_nonempty n (omega arith) in
    let few = length-decimal-le 4 n (omega arith) lt (omega arith) in
    let first : nat_le 1 (length (decimal n)) ≡ true = grind (arith, nat_tests) in
    let second : nat_le (length (decimal n)) 4 ≡ true = grind (arith, nat_tests) in
    (rw (first, second, h.digits) refl, h.value)

and_first : (a b : Bool) → (a && b) ≡ true → a ≡ true
and_first true b e = refl
and_first false b e = absurd (cc e)

digit_no_sign : (b : ℕ) → is_digit b ≡ true → (b == 45) ≡ false
digit_no_sign b e = grind (arith, nat_tests)

-- digits have no sign
unsigned : (ds : List ℕ) → 0 < length ds → list_all is_digit ds ≡ true
    → (is_angle ds ≡ is_number ds) × (signed_number_of ds ≡ pos (number_of ds))
unsigned [] some digits = absurd (omega arith)
unsigned (b ∷ bs) some digits =
    let first = and_first (is_digit b) (list_all is_digit bs) digits in
    let none = digit_no_sign b first in
    (rw none refl, rw none refl)

-- an angle in decimal is read as it is
pub angle-decimal : (half a : ℕ) → IsTrue (is_permitted half) → a < 2 * half
    → (is_angle (decimal a) ≡ true) × (angle_of half (decimal a) ≡ a)
angle-decimal half a permitted lt =
    let few : half ≤ 8 = permitted_at_most half permitted in
    let number = number-decimal a (omega arith) in
    let h = decimal_numeral a (omega arith) in
    let plain = unsigned (decimal a) (decimal_nonempty a (omega arith)) h.digits in
    let small : a % (2 * half) ≡ a = mod-eq_of_lt lt in
    (plain.0 ∙ number.0, rw (plain.1, number.1) small)
