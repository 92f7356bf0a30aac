-- Rows that are written bit by bit.
use Rattle.std.specs.Prelude.{◌≡◌, ◌⊎◌, ℕ, suc, ◌+◌, ◌<◌, ◌≤◌, Bool, true, false, ◌&&◌, nat_eq}
use Rattle.std.specs.Prelude.{nat_lt, List, replicate, refl}
use Rattle.std.proofs.Common.{arith, sym, ap, ap₂, ◌∙◌, inl, inr}
use Rattle.std.proofs.lemmas.Bool.{eq-eqb, ne_eqb, lt-ltb, le-ltb}
use Rattle.mc_model.specs.Bits.{◌⊻◌, Bits, odd}
use Rattle.mc_model.specs.Flow.{single}
use Rattle.mc_model.proofs.OddSums.{odd-none}
use Rattle.mc_bits.specs.Rows.{bit_of}
use Rattle.mc_bits.proofs.RowsByBits.{no_bits}
use Rattle.mc_elim.specs.Reduced.{null_set}
use Rattle.mc_elim.proofs.BitSums.{xor_right, and_right, odd-last, same_or_not}

none_below : (f : Bits) (r : ℕ) → false ≡ false && f r
none_below f r = refl

-- ---- a row that is copied bit by bit

-- the first `k` bits
abbrev pub first_bits : ℕ → Bits → Bits
first_bits k f = λ r. nat_lt r k && f r

pub no_first_bits : (f : Bits) (n r : ℕ) → bit_of (replicate n false) r ≡ first_bits 0 f r
no_first_bits f n r = no_bits n r ∙ ap (λ (b : Bool). b && f r) (sym (le-ltb r 0 (omega arith)))

one_more_bit : (f : Bits) (k r : ℕ) →
    first_bits k f r ⊻ (f k && nat_eq r k) ≡ first_bits (k + 1) f r
one_more_bit f k r = elim (sides r k) [
  | inl lt ↦
      rw (lt-ltb r k lt, ne_eqb r k (λ e. absurd (omega arith)), lt-ltb r (k + 1) (omega arith))
      (xor_right (f r) (f k && false) (and_right (f k) false refl))
  | inr ge ↦ elim (same_or_not r k) [
    | inl e ↦
        rw (le-ltb r k ge, eq-eqb r k e, lt-ltb r (k + 1) (omega arith))
        (ap (λ (b : Bool). b) (and_true (f k)) ∙ ap f (sym e))
    | inr ne ↦
        rw (le-ltb r k ge, ne_eqb r k ne, le-ltb r (k + 1) (omega arith))
        (and_right (f k) false refl)
  ]
]
  where
    sides : (r k : ℕ) → (r < k) ⊎ (k ≤ r)
    sides r k = grind arith

    and_true : (a : Bool) → a && true ≡ a
    and_true a = grind arith

pub copied_more : (row : List Bool) (f : Bits) (k : ℕ) (b : Bool) (new : List Bool) →
    ((r : ℕ) → bit_of row r ≡ first_bits k f r) → b ≡ f k →
    ((r : ℕ) → bit_of new r ≡ bit_of row r ⊻ (b && nat_eq r k)) →
    (r : ℕ) → bit_of new r ≡ first_bits (k + 1) f r
copied_more row f k b new h e g r =
    g r
    ∙ ap₂ (λ (c d : Bool). c ⊻ (d && nat_eq r k)) (h r) e
    ∙ one_more_bit f k r

-- one more bit of a set that has the first bits of `f`
pub first_more : (old new f : Bits) (k : ℕ) (b : Bool) →
    ((r : ℕ) → old r ≡ first_bits k f r) → b ≡ f k →
    ((r : ℕ) → new r ≡ old r ⊻ (b && nat_eq r k)) → (r : ℕ) → new r ≡ first_bits (k + 1) f r
first_more old new f k b h e g r =
    g r
    ∙ ap₂ (λ (c d : Bool). c ⊻ (d && nat_eq r k)) (h r) e
    ∙ one_more_bit f k r

-- nothing stands between `low` and `k`
pub first_skipped : (f : Bits) (low k : ℕ) → low ≤ k →
    ((r : ℕ) → low ≤ r → r < k → f r ≡ false) → (r : ℕ) → first_bits low f r ≡ first_bits k f r
first_skipped f low k le none r = elim (sides r low) [
  | inl lt ↦ rw (lt-ltb r low lt, lt-ltb r k (omega arith)) refl
  | inr ge ↦ elim (sides r k) [
    | inl lt ↦ rw (le-ltb r low ge, lt-ltb r k lt) (sym (none r ge lt))
    | inr far ↦ rw (le-ltb r low ge, le-ltb r k far) refl
  ]
]
  where
    sides : (r k : ℕ) → (r < k) ⊎ (k ≤ r)
    sides r k = grind arith

pub first_bit : (f : Bits) (k r : ℕ) → r < k → first_bits k f r ≡ f r
first_bit f k r l = rw (lt-ltb r k l) refl

-- all bits of a function that has none from `k` on
pub all_first_bits : (f : Bits) (k r : ℕ) → ((r : ℕ) → k ≤ r → f r ≡ false) →
    first_bits k f r ≡ f r
all_first_bits f k r none = elim (sides r k) [
  | inl lt ↦ rw (lt-ltb r k lt) refl
  | inr ge ↦ rw (le-ltb r k ge) (sym (none r ge))
]
  where
    sides : (r k : ℕ) → (r < k) ⊎ (k ≤ r)
    sides r k = grind arith

-- ---- a null set

pub null_none : (p : ℕ → ℕ) (b : ℕ → Bits) (f n r : ℕ) (old new : List Bool) →
    old ≡ replicate n false → bit_of new r ≡ bit_of old r ⊻ nat_eq r f →
    bit_of new r ≡ null_set 0 p b f r
null_none p b f n r old new e h =
    h
    ∙ ap (λ (c : Bool). c ⊻ nat_eq r f) (ap (λ (row : List Bool). bit_of row r) e ∙ no_bits n r)
    ∙ sym (xor_right (nat_eq r f) (odd 0 (λ i. b i f && nat_eq r (p i)))
    (odd-none 0 (λ i. b i f && nat_eq r (p i)) (λ j l. absurd (omega arith))))

swap_last : (a o x : Bool) → (a ⊻ o) ⊻ x ≡ a ⊻ (x ⊻ o)
swap_last a o x = grind arith

pub null_more : (p : ℕ → ℕ) (b : ℕ → Bits) (f i r : ℕ) (old new : List Bool) (told : Bool) →
    bit_of old r ≡ null_set i p b f r → told ≡ b i f →
    bit_of new r ≡ bit_of old r ⊻ (told && nat_eq r (p i)) →
    bit_of new r ≡ null_set (i + 1) p b f r
null_more p b f i r old new told h e g =
    let next : suc i ≡ i + 1 = omega arith in
    let term : Bits = λ a. b a f && nat_eq r (p a) in
    g
    ∙ ap₂ (λ (c d : Bool). c ⊻ (d && nat_eq r (p i))) h e
    ∙ swap_last (single f r) (odd i term) (term i)
    ∙ ap (λ (c : Bool). single f r ⊻ c) (sym (odd-last i term))
    ∙ ap (λ (n : ℕ). null_set n p b f r) next
