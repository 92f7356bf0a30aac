-- The amplitude ring is a commutative ring with an element `w` for which `w ^ half = -1`, at every
-- `half` above 0.
use Rattle.std.specs.Prelude.{◌≡◌, ℕ, zero, suc, ◌+◌, ◌<◌, ℤ, pos, ◌+ℤ◌, refl, List, [], ◌∷◌}
use Rattle.std.specs.Prelude.{◌++◌}
use Rattle.std.specs.Prelude.{length}
use Rattle.std.proofs.Common.{arith, sym, ap, ◌∙◌, append_assoc, append-nil}
use Rattle.std.proofs.lemmas.Int.{ints}
use lib.IntN.{◌*ℤ◌, neg_ℤ}
use native.Mathlib.Nat.{ℕ_set}
use mathlib.Core.HLevel.{is_prop→PathP}
use Rattle.mc_model.specs.Phase.{PhaseLaws, turn}
use Rattle.mc_model.specs.Ring.{Element, ring, IsCommutativeRing, plus, minus, scaled, zeros}
use Rattle.mc_model.specs.Ring.{behind, final, rotated, rotations, times, unit, length-zeros}
use Rattle.mc_model.specs.Ring.{length-plus, length-scaled, length-behind, length-times}
use Rattle.mc_model.proofs.WholeNumbers.{mul_add, mul_assoc, mul_comm, mul_zero, mul_one, mul_neg}

-- ---- sums

cons : (x y : ℤ) (xs ys : List ℤ) → x ≡ y → xs ≡ ys → x ∷ xs ≡ y ∷ ys
cons x y xs ys e f = ap (λ z. z ∷ xs) e ∙ ap (λ zs. y ∷ zs) f

pub plus_comm : (a b : List ℤ) → plus a b ≡ plus b a
plus_comm [] [] = refl
plus_comm [] (y ∷ ys) = refl
plus_comm (x ∷ xs) [] = refl
plus_comm (x ∷ xs) (y ∷ ys) = cons _ _ _ _ (omega (arith, ints)) (plus_comm xs ys)

pub plus_assoc : (a b c : List ℤ) → plus (plus a b) c ≡ plus a (plus b c)
plus_assoc [] b c = refl
plus_assoc (x ∷ xs) [] c = refl
plus_assoc (x ∷ xs) (y ∷ ys) [] = refl
plus_assoc (x ∷ xs) (y ∷ ys) (z ∷ zs) = cons _ _ _ _ (omega (arith, ints)) (plus_assoc xs ys zs)

-- (a + b) + (c + d) = (a + c) + (b + d)
pub plus_middle : (a b c d : List ℤ) → plus (plus a b) (plus c d) ≡ plus (plus a c) (plus b d)
plus_middle a b c d =
    plus_assoc a b (plus c d)
    ∙ ap (plus a) (sym (plus_assoc b c d) ∙ ap (λ t. plus t d) (plus_comm b c)
    ∙ plus_assoc c b d) ∙ sym (plus_assoc a c (plus b d))

pub plus_zeros : (a : List ℤ) → plus a (zeros (length a)) ≡ a
plus_zeros [] = refl
plus_zeros (x ∷ xs) = cons _ _ _ _ (omega (arith, ints)) (plus_zeros xs)

pub plus_minus : (a : List ℤ) → plus a (minus a) ≡ zeros (length a)
plus_minus [] = refl
plus_minus (x ∷ xs) = cons _ _ _ _ (omega (arith, ints)) (plus_minus xs)

-- ---- w is linear

pub behind_plus : (c d : ℤ) (a b : List ℤ) →
    behind (c +ℤ d) (plus a b) ≡ plus (behind c a) (behind d b)
behind_plus c d [] b = refl
behind_plus c d (x ∷ xs) [] = refl
behind_plus c d (x ∷ xs) (y ∷ ys) = ap (λ t. (c +ℤ d) ∷ t) (behind_plus x y xs ys)

pub final_plus : (c d : ℤ) (a b : List ℤ) → length a ≡ length b →
    final (c +ℤ d) (plus a b) ≡ final c a +ℤ final d b
final_plus c d [] [] e = refl
final_plus c d [] (y ∷ ys) e = absurd (omega arith)
final_plus c d (x ∷ xs) [] e = absurd (omega arith)
final_plus c d (x ∷ xs) (y ∷ ys) e = final_plus x y xs ys (omega arith)

neg_plus : (a b : ℤ) → neg_ℤ (a +ℤ b) ≡ neg_ℤ a +ℤ neg_ℤ b
neg_plus a b = omega (arith, ints)

pub rotated_plus : (a b : List ℤ) → length a ≡ length b →
    rotated (plus a b) ≡ plus (rotated a) (rotated b)
rotated_plus a b e =
    ap (λ c. behind (neg_ℤ c) (plus a b)) (final_plus (pos 0) (pos 0) a b e)
    ∙ ap (λ c. behind c (plus a b)) (neg_plus (final (pos 0) a) (final (pos 0) b))
    ∙ behind_plus _ _ a b

pub behind_scaled : (x c : ℤ) (a : List ℤ) → behind (x *ℤ c) (scaled x a) ≡ scaled x (behind c a)
behind_scaled x c [] = refl
behind_scaled x c (y ∷ ys) = ap (λ t. (x *ℤ c) ∷ t) (behind_scaled x y ys)

pub final_scaled : (x c : ℤ) (a : List ℤ) → final (x *ℤ c) (scaled x a) ≡ x *ℤ final c a
final_scaled x c [] = refl
final_scaled x c (y ∷ ys) = final_scaled x y ys

pub rotated_scaled : (x : ℤ) (a : List ℤ) → rotated (scaled x a) ≡ scaled x (rotated a)
rotated_scaled x a =
    ap (λ c. behind (neg_ℤ (final c (scaled x a))) (scaled x a)) (sym (mul_zero x))
    ∙ ap (λ c. behind (neg_ℤ c) (scaled x a)) (final_scaled x (pos 0) a)
    ∙ ap (λ c. behind c (scaled x a)) (sym (mul_neg x (final (pos 0) a)))
    ∙ behind_scaled x (neg_ℤ (final (pos 0) a)) a

-- ---- the product is linear in its second factor

pub scaled_plus : (x : ℤ) (a b : List ℤ) → scaled x (plus a b) ≡ plus (scaled x a) (scaled x b)
scaled_plus x [] b = refl
scaled_plus x (y ∷ ys) [] = refl
scaled_plus x (y ∷ ys) (z ∷ zs) = cons _ _ _ _ (mul_add x y z) (scaled_plus x ys zs)

pub scaled_scaled : (x y : ℤ) (a : List ℤ) → scaled x (scaled y a) ≡ scaled y (scaled x a)
scaled_scaled x y [] = refl
scaled_scaled x y (z ∷ zs) =
    cons _ _ _ _ (sym (mul_assoc x y z) ∙ ap (λ t. t *ℤ z) (mul_comm x y) ∙ mul_assoc y x z)
    (scaled_scaled x y zs)

length-rotated : (a : List ℤ) → length (rotated a) ≡ length a
length-rotated a = length-behind (neg_ℤ (final (pos 0) a)) a

zeros_twice : (n : ℕ) → plus (zeros n) (zeros n) ≡ zeros n
zeros_twice zero = refl
zeros_twice (suc n) = ap (λ t. pos 0 ∷ t) (zeros_twice n)

pub times_plus : (a b c : List ℤ) → length b ≡ length c →
    times a (plus b c) ≡ plus (times a b) (times a c)
times_plus [] b c e = ap zeros (length-plus b c e) ∙ sym (zeros_twice (length b))
    ∙ ap (λ n. plus (zeros (length b)) (zeros n)) e
times_plus (x ∷ a) b c e =
    ap (λ t. plus (scaled x (plus b c)) (rotated t)) (times_plus a b c e)
    ∙ ap (λ t. plus t (rotated (plus (times a b) (times a c)))) (scaled_plus x b c)
    ∙ ap (plus (plus (scaled x b) (scaled x c)))
    (rotated_plus (times a b) (times a c) (length-times a b ∙ e ∙ sym (length-times a c)))
    ∙ plus_middle (scaled x b) (scaled x c) (rotated (times a b)) (rotated (times a c))

scaled_zeros : (x : ℤ) (n : ℕ) → scaled x (zeros n) ≡ zeros n
scaled_zeros x zero = refl
scaled_zeros x (suc n) = cons _ _ _ _ (mul_zero x) (scaled_zeros x n)

pub times_scaled : (a : List ℤ) (y : ℤ) (b : List ℤ) → times a (scaled y b) ≡ scaled y (times a b)
times_scaled [] y b = ap zeros (length-scaled y b) ∙ sym (scaled_zeros y (length b))
times_scaled (x ∷ a) y b =
    ap (λ t. plus (scaled x (scaled y b)) (rotated t)) (times_scaled a y b)
    ∙ ap (plus (scaled x (scaled y b))) (rotated_scaled y (times a b))
    ∙ ap (λ t. plus t (scaled y (rotated (times a b)))) (scaled_scaled x y b)
    ∙ sym (scaled_plus y (scaled x b) (rotated (times a b)))

behind_zeros : (n : ℕ) → behind (pos 0) (zeros n) ≡ zeros n
behind_zeros zero = refl
behind_zeros (suc n) = ap (λ t. pos 0 ∷ t) (behind_zeros n)

final_zeros : (n : ℕ) → final (pos 0) (zeros n) ≡ pos 0
final_zeros zero = refl
final_zeros (suc n) = final_zeros n

rotated_zeros : (n : ℕ) → rotated (zeros n) ≡ zeros n
rotated_zeros n = ap (λ c. behind (neg_ℤ c) (zeros n)) (final_zeros n) ∙ behind_zeros n

pub times_rotated : (a b : List ℤ) → times a (rotated b) ≡ rotated (times a b)
times_rotated [] b = ap zeros (length-rotated b) ∙ sym (rotated_zeros (length b))
times_rotated (x ∷ a) b =
    ap (λ t. plus (scaled x (rotated b)) (rotated t)) (times_rotated a b)
    ∙ ap (λ t. plus t (rotated (rotated (times a b)))) (sym (rotated_scaled x b))
    ∙ sym (rotated_plus (scaled x b) (rotated (times a b))
    (length-scaled x b ∙ sym (length-rotated (times a b) ∙ length-times a b)))

pub times_zeros : (a : List ℤ) (n : ℕ) → times a (zeros n) ≡ zeros n
times_zeros [] n = ap zeros (length-zeros n)
times_zeros (x ∷ a) n =
    ap (λ t. plus t (rotated (times a (zeros n)))) (scaled_zeros x n)
    ∙ ap (λ t. plus (zeros n) (rotated t)) (times_zeros a n)
    ∙ ap (plus (zeros n)) (rotated_zeros n)
    ∙ zeros_twice n

-- two factors change places
pub times_times : (a b c : List ℤ) → times a (times b c) ≡ times b (times a c)
times_times [] b c = ap zeros (length-times b c) ∙ sym (times_zeros b (length c))
times_times (x ∷ a) b c =
    sym (ap (times b) refl
    ∙ times_plus b (scaled x c) (rotated (times a c))
    (length-scaled x c ∙ sym (length-rotated (times a c) ∙ length-times a c))
    ∙ ap (λ t. plus t (times b (rotated (times a c)))) (times_scaled b x c)
    ∙ ap (plus (scaled x (times b c))) (times_rotated b (times a c))
    ∙ ap (λ t. plus (scaled x (times b c)) (rotated t)) (sym (times_times a b c)))

-- ---- 1 is a unit on the right

-- a with n zeros behind it
abbrev filled : List ℤ → ℕ → List ℤ
filled [] n = zeros n
filled (x ∷ xs) n = x ∷ filled xs n

behind_filled : (c : ℤ) (a : List ℤ) (n : ℕ) → behind c (filled a (suc n)) ≡ c ∷ filled a n
behind_filled c [] n = ap (λ t. c ∷ t) (behind_zeros n)
behind_filled c (x ∷ xs) n = ap (λ t. c ∷ t) (behind_filled x xs n)

final_filled : (c : ℤ) (a : List ℤ) (n : ℕ) → final c (filled a (suc n)) ≡ pos 0
final_filled c [] n = final_zeros n
final_filled c (x ∷ xs) n = final_filled x xs n

rotated_filled : (a : List ℤ) (n : ℕ) → rotated (filled a (suc n)) ≡ pos 0 ∷ filled a n
rotated_filled a n = ap (λ c. behind (neg_ℤ c) (filled a (suc n))) (final_filled (pos 0) a n)
    ∙ behind_filled (pos 0) a n

length-filled : (a : List ℤ) (n : ℕ) → length (filled a n) ≡ length a + n
length-filled [] n = length-zeros n ∙ omega arith
length-filled (x ∷ xs) n = ap suc (length-filled xs n) ∙ omega arith

-- zeros in front of a list of one more
zeros_plus : (a : List ℤ) → plus (zeros (length a)) a ≡ a
zeros_plus a = plus_comm (zeros (length a)) a ∙ plus_zeros a

times_unit_filled : (a : List ℤ) (n k : ℕ) → length a + n ≡ suc k →
    times a (unit (suc k)) ≡ filled a n
times_unit_filled [] n k e = ap zeros (ap suc (length-zeros k) ∙ sym e ∙ omega arith)
times_unit_filled (x ∷ a) n k e =
    ap (λ t. plus (scaled x (unit (suc k))) (rotated t))
    (times_unit_filled a (suc n) k (omega arith))
    ∙ ap (plus (scaled x (unit (suc k)))) (rotated_filled a n)
    ∙ cons _ _ _ _ (ap (λ t. t +ℤ pos 0) (mul_one x) ∙ omega (arith, ints))
    (ap (λ t. plus t (filled a n))
    (scaled_zeros x k
    ∙ ap zeros (let f : k ≡ length a + n = omega arith in f
    ∙ sym (length-filled a n))) ∙ zeros_plus (filled a n))

filled_none : (a : List ℤ) → filled a 0 ≡ a
filled_none [] = refl
filled_none (x ∷ xs) = ap (λ t. x ∷ t) (filled_none xs)

pub times_unit : (a : List ℤ) (k : ℕ) → length a ≡ suc k → times a (unit (suc k)) ≡ a
times_unit a k e = times_unit_filled a 0 k (omega arith) ∙ filled_none a

-- ---- the laws of a commutative ring

pub times_comm : (a b : List ℤ) (k : ℕ) → length a ≡ suc k → length b ≡ suc k →
    times a b ≡ times b a
times_comm a b k e f = ap (times a) (sym (times_unit b k f)) ∙ times_times a b (unit (suc k))
    ∙ ap (times b) (times_unit a k e)

pub times_assoc : (a b c : List ℤ) (k : ℕ) → length a ≡ suc k → length b ≡ suc k →
    length c ≡ suc k → times (times a b) c ≡ times a (times b c)
times_assoc a b c k e f g =
    times_comm (times a b) c k (length-times a b ∙ f) g ∙ times_times c a b
    ∙ ap (times a) (times_comm c b k g f)

pub times_one : (a : List ℤ) (k : ℕ) → length a ≡ suc k → times a (unit (suc k)) ≡ a
times_one = times_unit

behind_last : (c : ℤ) (g : List ℤ) (x : ℤ) → behind c (g ++ (x ∷ [])) ≡ c ∷ g
behind_last c [] x = refl
behind_last c (y ∷ g) x = ap (λ t. c ∷ t) (behind_last y g x)

final_last : (c : ℤ) (g : List ℤ) (x : ℤ) → final c (g ++ (x ∷ [])) ≡ x
final_last c [] x = refl
final_last c (y ∷ g) x = final_last y g x

rotated_last : (g : List ℤ) (x : ℤ) → rotated (g ++ (x ∷ [])) ≡ neg_ℤ x ∷ g
rotated_last g x = ap (λ c. behind (neg_ℤ c) (g ++ (x ∷ []))) (final_last (pos 0) g x)
    ∙ behind_last (neg_ℤ x) g x

-- as many turns as b is long bring b to the front, with its sign changed
pub rotations_back : (f b : List ℤ) → rotations (length b) (f ++ b) ≡ minus b ++ f
rotations_back f [] = append-nil f
rotations_back f (x ∷ b) =
    ap (λ t. rotated (rotations (length b) t)) (sym (append_assoc f (x ∷ []) b))
    ∙ ap rotated (rotations_back (f ++ (x ∷ [])) b)
    ∙ ap rotated (sym (append_assoc (minus b) f (x ∷ [])))
    ∙ rotated_last (minus b ++ f) x

-- a half turn is the negative
pub rotations_half : (a : List ℤ) → rotations (length a) a ≡ minus a
rotations_half a = rotations_back [] a ∙ append-nil (minus a)

pub length-rotations : (k : ℕ) (a : List ℤ) → length (rotations k a) ≡ length a
length-rotations zero a = refl
length-rotations (suc k) a = length-behind (neg_ℤ (final (pos 0) (rotations k a))) (rotations k a)
    ∙ length-rotations k a

pub rotations_add : (j k : ℕ) (a : List ℤ) → rotations (j + k) a ≡ rotations j (rotations k a)
rotations_add zero k a = let e : 0 + k ≡ k = omega arith in ap (λ n. rotations n a) e
rotations_add (suc j) k a =
    ap (λ n. rotations n a) (let e : suc j + k ≡ suc (j + k) = omega arith in e)
    ∙ ap rotated (rotations_add j k a)

pub times_rotations : (a b : List ℤ) (k : ℕ) → times a (rotations k b) ≡ rotations k (times a b)
times_rotations a b zero = refl
times_rotations a b (suc k) = times_rotated a (rotations k b) ∙ ap rotated (times_rotations a b k)

-- a turn is the product with a power of w, which is a turn of 1
pub rotations_product : (k : ℕ) (a : List ℤ) (h : ℕ) → length a ≡ suc h →
    rotations k a ≡ times a (rotations k (unit (suc h)))
rotations_product k a h e = ap (rotations k) (sym (times_one a h e))
    ∙ sym (times_rotations a (unit (suc h)) k)

-- ---- elements

-- equal coefficients make equal elements
pub same_element : {half : ℕ} (x y : Element half) → x.coefficients ≡ y.coefficients → x ≡ y
same_element {half} x y e = λ i. record {
  coefficients = e i;
  is_long =
      is_prop→PathP (λ j. length (e j) ≡ half) (λ j. ℕ_set (length (e j)) half)
      x.is_long y.is_long i;
}

pub turn_coefficients : (half k : ℕ) (x : Element half) →
    (turn (ring half) k x).coefficients ≡ rotations k x.coefficients
unfolding turn
turn_coefficients half zero x = refl
turn_coefficients half (suc k) x = ap rotated (turn_coefficients half k x)

-- the amplitude ring obeys the laws of phases
pub ring_laws : (half : ℕ) → 0 < half → PhaseLaws (ring half)
ring_laws half positive = record {
  add_assoc = λ x y z. same_element _ _ (plus_assoc x.coefficients y.coefficients z.coefficients);
  add_comm = λ x y. same_element _ _ (plus_comm x.coefficients y.coefficients);
  add_nought = λ x.
      same_element _ _
      (ap (λ n. plus x.coefficients (zeros n)) (sym x.is_long) ∙ plus_zeros x.coefficients);
  add_neg = λ x. same_element _ _ (plus_minus x.coefficients ∙ ap zeros x.is_long);
  rotate_add = λ x y.
      same_element _ _ (rotated_plus x.coefficients y.coefficients (x.is_long ∙ sym y.is_long));
  half_turn = λ x.
      same_element _ _
      (turn_coefficients half half x
      ∙ ap (λ n. rotations n x.coefficients) (sym x.is_long)
      ∙ rotations_half x.coefficients);
  half_positive = positive;
}

pub commutative_ring : (half : ℕ) → 0 < half → IsCommutativeRing half
commutative_ring zero positive = absurd (omega arith)
commutative_ring (suc k) positive = record {
  phases = ring_laws (suc k) positive;
  product_comm = λ x y.
      same_element _ _ (times_comm x.coefficients y.coefficients k x.is_long y.is_long);
  product_assoc = λ x y z.
      same_element _ _
      (times_assoc x.coefficients y.coefficients z.coefficients k x.is_long y.is_long z.is_long);
  product_one = λ x. same_element _ _ (times_one x.coefficients k x.is_long);
  product_add = λ x y z.
      same_element _ _
      (times_plus x.coefficients y.coefficients z.coefficients (y.is_long ∙ sym z.is_long));
  rotate_product = λ x. same_element _ _ (rotations_product 1 x.coefficients k x.is_long);
}
