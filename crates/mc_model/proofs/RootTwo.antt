-- The root of two, which is `w ^ q - w ^ (3·q)` where half a turn is `4·q` steps.
use Rattle.std.specs.Prelude.{◌≡◌, ℕ, zero, suc, ◌+◌, ◌*◌, ◌<◌, ℤ, ◌+ℤ◌, refl, List, [], ◌∷◌}
use Rattle.std.specs.Prelude.{length}
use Rattle.std.proofs.Common.{arith, sym, ap, ap₂, ◌∙◌}
use Rattle.std.proofs.lemmas.Int.{ints}
use lib.IntN.{neg_ℤ}
use Rattle.mc_model.specs.Ring.{Element, ring, product, root_two, plus, minus, times, unit, rotated}
use Rattle.mc_model.specs.Ring.{rotations, length-plus, length-minus, length-unit, length-times}
use Rattle.mc_model.proofs.RingLemmas.{same_element, turn_coefficients, rotated_plus, rotations_add}
use Rattle.mc_model.proofs.RingLemmas.{rotations_half, length-rotations, times_plus}
use Rattle.mc_model.proofs.RingLemmas.{times_rotations, times_one}

-- the root of 2 times an element
abbrev pub rooted : ℕ → List ℤ → List ℤ
rooted q a = plus (rotations q a) (minus (rotations (3 * q) a))

pub length-rooted : (q : ℕ) (a : List ℤ) → length (rooted q a) ≡ length a
length-rooted q a =
    length-plus (rotations q a) (minus (rotations (3 * q) a))
    (length-rotations q a ∙ sym (length-rotations (3 * q) a)
    ∙ sym (length-minus (rotations (3 * q) a))) ∙ length-rotations q a

pub rotations_plus : (k : ℕ) (a b : List ℤ) → length a ≡ length b →
    rotations k (plus a b) ≡ plus (rotations k a) (rotations k b)
rotations_plus zero a b e = refl
rotations_plus (suc k) a b e = ap rotated (rotations_plus k a b e)
    ∙ rotated_plus (rotations k a) (rotations k b)
    (length-rotations k a ∙ e ∙ sym (length-rotations k b))

-- a negative is a half turn
pub rotations_minus : (k : ℕ) (a : List ℤ) → rotations k (minus a) ≡ minus (rotations k a)
rotations_minus k a =
    ap (rotations k) (sym (rotations_half a)) ∙ sym (rotations_add k (length a) a)
    ∙ (let e : k + length a ≡ length a + k = omega arith in ap (λ n. rotations n a) e)
    ∙ rotations_add (length a) k a
    ∙ ap (λ n. rotations n (rotations k a)) (sym (length-rotations k a))
    ∙ rotations_half (rotations k a)

pub minus_minus : (a : List ℤ) → minus (minus a) ≡ a
minus_minus [] = refl
minus_minus (x ∷ xs) = let e : neg_ℤ (neg_ℤ x) ≡ x = omega (arith, ints) in
    ap (λ t. t ∷ minus (minus xs)) e ∙ ap (λ t. x ∷ t) (minus_minus xs)

-- (x - -a) - (-a - -x) is a + a
four : (x a : List ℤ) → length x ≡ length a →
    plus (plus x (minus (minus a))) (minus (plus (minus a) (minus (minus x)))) ≡ plus a a
four [] [] e = refl
four [] (y ∷ ys) e = absurd (omega arith)
four (x ∷ xs) [] e = absurd (omega arith)
four (x ∷ xs) (y ∷ ys) e =
    let k : (x +ℤ neg_ℤ (neg_ℤ y)) +ℤ neg_ℤ (neg_ℤ y +ℤ neg_ℤ (neg_ℤ x)) ≡ y +ℤ y =
    omega (arith, ints) in
    ap (λ t. t ∷ plus (plus xs (minus (minus ys))) (minus (plus (minus ys) (minus (minus xs))))) k
    ∙ ap (λ t. (y +ℤ y) ∷ t) (four xs ys (omega arith))

quarter : (q i j : ℕ) (a : List ℤ) → i + j ≡ 4 * q → length a ≡ 4 * q →
    rotations i (rotations j a) ≡ minus a
quarter q i j a e f = sym (rotations_add i j a) ∙ ap (λ n. rotations n a) (e ∙ sym f)
    ∙ rotations_half a

-- the root, twice, doubles
pub rooted_twice : (q : ℕ) (a : List ℤ) → length a ≡ 4 * q → rooted q (rooted q a) ≡ plus a a
rooted_twice q a e =
    let same : length (rotations q a) ≡ length (minus (rotations (3 * q) a)) = length-rotations q a
    ∙ sym (length-rotations (3 * q) a) ∙ sym (length-minus (rotations (3 * q) a)) in
    let one : rotations q (rooted q a) ≡ plus (rotations q (rotations q a)) (minus (minus a)) =
    rotations_plus q (rotations q a) (minus (rotations (3 * q) a)) same
    ∙ ap (plus (rotations q (rotations q a)))
    (rotations_minus q (rotations (3 * q) a) ∙ ap minus (quarter q q (3 * q) a (omega arith) e))
    in
    let six : rotations (3 * q) (rotations (3 * q) a) ≡ minus (rotations q (rotations q a)) =
    sym (rotations_add (3 * q) (3 * q) a)
    ∙ (let k : 3 * q + 3 * q ≡ 4 * q + (q + q) = omega arith in ap (λ n. rotations n a) k)
    ∙ rotations_add (4 * q) (q + q) a ∙ ap (rotations (4 * q)) (rotations_add q q a)
    ∙ ap (λ n. rotations n (rotations q (rotations q a)))
    (sym (length-rotations q (rotations q a) ∙ length-rotations q a ∙ e))
    ∙ rotations_half (rotations q (rotations q a)) in
    let three : rotations (3 * q) (rooted q a)
    ≡ plus (minus a) (minus (minus (rotations q (rotations q a)))) =
    rotations_plus (3 * q) (rotations q a) (minus (rotations (3 * q) a)) same
    ∙ ap (λ t. plus t (rotations (3 * q) (minus (rotations (3 * q) a))))
    (quarter q (3 * q) q a (omega arith) e)
    ∙ ap (plus (minus a)) (rotations_minus (3 * q) (rotations (3 * q) a) ∙ ap minus six) in
    ap (λ t. plus t (minus (rotations (3 * q) (rooted q a)))) one
    ∙ ap (λ t. plus (plus (rotations q (rotations q a)) (minus (minus a))) (minus t)) three
    ∙ four (rotations q (rotations q a)) a
    (length-rotations q (rotations q a) ∙ length-rotations q a)

times_minus : (a b : List ℤ) → times a (minus b) ≡ minus (times a b)
times_minus a b =
    ap (times a) (sym (rotations_half b))
    ∙ times_rotations a b (length b)
    ∙ ap (λ n. rotations n (times a b)) (sym (length-times a b))
    ∙ rotations_half (times a b)

-- the product with the root of two
times_rooted : (q k : ℕ) (a : List ℤ) → 4 * q ≡ suc k → length a ≡ suc k →
    times a (rooted q (unit (suc k))) ≡ rooted q a
times_rooted q k a e f =
    let one : List ℤ = unit (suc k) in
    let same : length (rotations q one) ≡ length (minus (rotations (3 * q) one)) =
    length-rotations q one
    ∙ sym (length-minus (rotations (3 * q) one) ∙ length-rotations (3 * q) one) in
    times_plus a (rotations q one) (minus (rotations (3 * q) one)) same
    ∙ ap₂ plus
    (times_rotations a one q ∙ ap (rotations q) (times_one a k f))
    (times_minus a (rotations (3 * q) one)
    ∙ ap minus (times_rotations a one (3 * q) ∙ ap (rotations (3 * q)) (times_one a k f)))

root_coefficients : (q : ℕ) → (root_two q).coefficients ≡ rooted q (unit (4 * q))
root_coefficients q =
    let one : Element (4 * q) = (ring (4 * q)).one in
    ap₂ (λ a b. plus a (minus b)) (turn_coefficients (4 * q) q one)
    (turn_coefficients (4 * q) (3 * q) one)

squares_by : (q k : ℕ) → 4 * q ≡ suc k →
    times (rooted q (unit (4 * q))) (rooted q (unit (4 * q))) ≡ plus (unit (4 * q)) (unit (4 * q))
squares_by q k e =
    let long : length (rooted q (unit (suc k))) ≡ suc k =
    length-rooted q (unit (suc k)) ∙ length-unit (suc k) in
    ap (λ n. times (rooted q (unit n)) (rooted q (unit n))) e
    ∙ times_rooted q k (rooted q (unit (suc k))) e long
    ∙ ap (λ n. rooted q (rooted q (unit n))) (sym e)
    ∙ rooted_twice q (unit (4 * q)) (length-unit (4 * q))

pub root_squared : (q : ℕ) → 0 < q →
    product (root_two q) (root_two q) ≡ (ring (4 * q)).add (ring (4 * q)).one (ring (4 * q)).one
root_squared zero h = absurd (omega arith)
root_squared (suc p) h =
    same_element _ _
    (ap₂ times (root_coefficients (suc p)) (root_coefficients (suc p))
    ∙ squares_by (suc p) (3 + 4 * p) (omega arith))
