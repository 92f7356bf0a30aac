-- The amplitude ring: numbers with `w ^ half = -1`, as the lists of the coefficients of `1, w, ..,
-- w ^ (half - 1)`.
use Rattle.std.specs.Prelude.{◌≡◌, ℕ, zero, suc, ◌*◌, ℤ, pos, ◌+ℤ◌, neg_ℤ, List, [], ◌∷◌, length}
use Rattle.std.specs.Prelude.{refl}
use lib.IntN.{◌*ℤ◌}
use mathlib.Core.Path.{ap, ◌∙◌, sym}
use Rattle.mc_model.specs.Phase.{PhaseOps, PhaseLaws, turn}

-- `half` whole numbers
pub record Element (half : ℕ) : Type 0 where
  pub coefficients : List ℤ
  pub is_long : length coefficients ≡ half

abbrev pub zeros : ℕ → List ℤ
zeros zero = []
zeros (suc n) = pos 0 ∷ zeros n

-- 1
abbrev pub unit : ℕ → List ℤ
unit zero = []
unit (suc n) = pos 1 ∷ zeros n

-- the sum, by coefficient
abbrev pub plus : List ℤ → List ℤ → List ℤ
plus [] ys = []
plus (x ∷ xs) [] = []
plus (x ∷ xs) (y ∷ ys) = (x +ℤ y) ∷ plus xs ys

-- the negative
abbrev pub minus : List ℤ → List ℤ
minus [] = []
minus (x ∷ xs) = neg_ℤ x ∷ minus xs

-- a whole number times an element
abbrev pub scaled : ℤ → List ℤ → List ℤ
scaled x [] = []
scaled x (y ∷ ys) = (x *ℤ y) ∷ scaled x ys

-- `c`, and then all coefficients but the last
abbrev pub behind : ℤ → List ℤ → List ℤ
behind c [] = []
behind c (x ∷ xs) = c ∷ behind x xs

-- the last coefficient, or `c` where there is none
abbrev pub final : ℤ → List ℤ → ℤ
final c [] = c
final c (x ∷ xs) = final x xs

-- times `w`: each coefficient moves up by one place, and the last comes back as its negative
abbrev pub rotated : List ℤ → List ℤ
rotated xs = behind (neg_ℤ (final (pos 0) xs)) xs

-- times `w ^ k`
abbrev pub rotations : ℕ → List ℤ → List ℤ
rotations zero a = a
rotations (suc k) a = rotated (rotations k a)

-- the product: `(x + w·a)·b = x·b + w·(a·b)`
abbrev pub times : List ℤ → List ℤ → List ℤ
times [] b = zeros (length b)
times (x ∷ a) b = plus (scaled x b) (rotated (times a b))

pub length-zeros : (n : ℕ) → length (zeros n) ≡ n
length-zeros zero = refl
length-zeros (suc n) = ap suc (length-zeros n)

pub length-unit : (n : ℕ) → length (unit n) ≡ n
length-unit zero = refl
length-unit (suc n) = ap suc (length-zeros n)

pred : ℕ → ℕ
pred zero = zero
pred (suc n) = n

pred_same : {a b : ℕ} → suc a ≡ suc b → a ≡ b
unfolding pred
pred_same e = ap pred e

pub length-plus : (a b : List ℤ) → length a ≡ length b → length (plus a b) ≡ length a
length-plus [] b e = refl
length-plus (x ∷ xs) [] e = sym e
length-plus (x ∷ xs) (y ∷ ys) e = ap suc (length-plus xs ys (pred_same e))

pub length-minus : (a : List ℤ) → length (minus a) ≡ length a
length-minus [] = refl
length-minus (x ∷ xs) = ap suc (length-minus xs)

pub length-scaled : (x : ℤ) (a : List ℤ) → length (scaled x a) ≡ length a
length-scaled x [] = refl
length-scaled x (y ∷ ys) = ap suc (length-scaled x ys)

pub length-behind : (c : ℤ) (a : List ℤ) → length (behind c a) ≡ length a
length-behind c [] = refl
length-behind c (x ∷ xs) = ap suc (length-behind x xs)

pub length-times : (a b : List ℤ) → length (times a b) ≡ length b
length-times [] b = length-zeros (length b)
length-times (x ∷ a) b =
    length-plus (scaled x b) (rotated (times a b))
    (length-scaled x b ∙ sym (length-behind _ (times a b) ∙ length-times a b))
    ∙ length-scaled x b

abbrev pub ring : (half : ℕ) → PhaseOps (Element half)
ring half = record {
  nought = record { coefficients = zeros half; is_long = length-zeros half };
  one = record { coefficients = unit half; is_long = length-unit half };
  add = λ x y. record {
    coefficients = plus x.coefficients y.coefficients;
    is_long =
        length-plus x.coefficients y.coefficients (x.is_long ∙ sym y.is_long) ∙ x.is_long;
  };
  neg = λ x. record {
    coefficients = minus x.coefficients;
    is_long = length-minus x.coefficients ∙ x.is_long;
  };
  rotate = λ x. record {
    coefficients = rotated x.coefficients;
    is_long = length-behind _ x.coefficients ∙ x.is_long;
  };
  half = half;
}

abbrev pub product : {half : ℕ} → Element half → Element half → Element half
product x y = record {
  coefficients = times x.coefficients y.coefficients;
  is_long = length-times x.coefficients y.coefficients ∙ y.is_long;
}

-- the root of two where a quarter of a half turn is `q` steps: `w ^ q - w ^ (3·q)`
abbrev pub root_two : (q : ℕ) → Element (4 * q)
root_two q =
    let ops = ring (4 * q) in
    ops.add (turn ops q ops.one) (ops.neg (turn ops (3 * q) ops.one))

-- a commutative ring, whose sum and negative are those of the phases, and in which a rotation is a
-- product
pub record IsCommutativeRing (half : ℕ) : Type 0 where
  pub phases : PhaseLaws (ring half)
  pub product_comm : (x y : Element half) → product x y ≡ product y x
  pub product_assoc : (x y z : Element half) → product (product x y) z ≡ product x (product y z)
  pub product_one : (x : Element half) → product x (ring half).one ≡ x
  pub product_add : (x y z : Element half) →
      product x ((ring half).add y z) ≡ (ring half).add (product x y) (product x z)
  pub rotate_product : (x : Element half) →
      (ring half).rotate x ≡ product x ((ring half).rotate (ring half).one)
