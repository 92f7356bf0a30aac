-- Single bits of words.
use Rattle.std.specs.Prelude.{◌≡◌, ◌⊎◌, ℕ, zero, suc, ◌+◌, ◌*◌, ◌/◌, ◌%◌, ◌^◌, ◌<◌, Bool}
use Rattle.std.specs.Prelude.{false}
use Rattle.std.specs.Prelude.{nat_eq, List, length, replicate, slice_index, slice_set, bit_xor}
use Rattle.std.specs.Prelude.{refl, not}
use Rattle.std.proofs.Common.{arith, sym, ap, ap₂, subst, ◌∙◌, inl, inr, get_or-set_same}
use Rattle.std.proofs.Common.{get_or-set_other}
use Rattle.std.specs.Int.{bit_at}
use Rattle.std.proofs.lemmas.Bool.{eq-eqb, ne_eqb, cases_eq}
use Rattle.std.proofs.lemmas.Nat.Bits.{bit_at_xor, bit_at-lt, bit_at-pow_same, bit_at-pow_other}
use Rattle.std.proofs.lemmas.Nat.Bits.{bit_at-zero}
use Rattle.std.proofs.Math.Nat.{mod-eq_of_lt}
use Rattle.std.proofs.Math.Pow.{pow-lt}
use mathlib.Core.Bool.{beq}
use Rattle.mc_model.specs.Bits.{◌⊻◌, Bits, odd}
use Rattle.mc_bits.specs.Words.{word_bit}

bit_or_none : (a : ℕ) → a < 2 → (a ≡ 0) ⊎ (a ≡ 1)
bit_or_none a h = grind arith

-- the lowest bit of a sum
sum_test : (a b : ℕ) → a < 2 → b < 2 → nat_eq ((a + b) % 2) 1 ≡ (nat_eq a 1 ⊻ nat_eq b 1)
sum_test a b h k = elim (bit_or_none a h) [
  | inl e ↦ elim (bit_or_none b k) [ inl f ↦ rw (e, f) refl | inr f ↦ rw (e, f) refl ]
  | inr e ↦ elim (bit_or_none b k) [ inl f ↦ rw (e, f) refl | inr f ↦ rw (e, f) refl ]
]

-- the bits of a sum of words
pub xor_test : (a b k : ℕ) →
    nat_eq (bit_at (bit_xor a b) k) 1 ≡ (nat_eq (bit_at a k) 1 ⊻ nat_eq (bit_at b k) 1)
xor_test a b k =
    ap (λ (n : ℕ). nat_eq n 1) (bit_at_xor a b k)
    ∙ sum_test (bit_at a k) (bit_at b k) (bit_at-lt a k) (bit_at-lt b k)

-- the word that has one bit
one_bit : (m k : ℕ) → m < 64 → nat_eq (bit_at (1 * 2 ^ m % 2 ^ 64) k) 1 ≡ nat_eq k m
one_bit m k h =
    let small : 2 ^ m < 2 ^ 64 = pow-lt h in
    let same : 1 * 2 ^ m % 2 ^ 64 ≡ 2 ^ m =
    let e : 1 * 2 ^ m ≡ 2 ^ m = omega arith in
    ap (λ (n : ℕ). n % 2 ^ 64) e ∙ mod-eq_of_lt small in
    ap (λ (n : ℕ). nat_eq (bit_at n k) 1) same
    ∙ elim (cases_eq k m) [
      | inl e ↦
          ap (λ (n : ℕ). nat_eq n 1) (subst (λ (i : ℕ). bit_at (2 ^ m) i ≡ 1) (sym e)
          (bit_at-pow_same m))
          ∙ sym (eq-eqb k m e)
      | inr ne ↦ ap (λ (n : ℕ). nat_eq n 1) (bit_at-pow_other m k ne) ∙ sym (ne_eqb k m ne)
    ]

pub xor_none : (a : Bool) → a ≡ a ⊻ false
xor_none a = grind arith

-- a word with one bit changed, among the others
pub flip_word : (words : List ℕ) (k r : ℕ) → k < 64 * length words →
    word_bit (slice_set words (k / 64)
    (bit_xor (slice_index words (k / 64)) (1 * 2 ^ (k % 64) % 2 ^ 64))) r
    ≡ (word_bit words r ⊻ nat_eq r k)
flip_word words k r h = elim (cases_eq (r / 64) (k / 64)) [
  | inl e ↦
      let within : k / 64 < length words = omega arith in
      let low : k % 64 < 64 = omega arith in
      let changed = bit_xor (slice_index words (k / 64)) (1 * 2 ^ (k % 64) % 2 ^ 64) in
      ap (λ (i : ℕ). nat_eq (bit_at (slice_index (slice_set words (k / 64) changed) i) (r % 64)) 1)
      e
      ∙ ap (λ (n : ℕ). nat_eq (bit_at n (r % 64)) 1)
      (get_or-set_same words (k / 64) changed 0 within)
      ∙ xor_test (slice_index words (k / 64)) (1 * 2 ^ (k % 64) % 2 ^ 64) (r % 64)
      ∙ ap₂ (λ (a b : Bool). a ⊻ b)
      (ap (λ (i : ℕ). nat_eq (bit_at (slice_index words i) (r % 64)) 1) (sym e))
      (one_bit (k % 64) (r % 64) low ∙ same_test e)
  | inr ne ↦
      let apart : (r ≡ k) → ⊥ = λ f. ne (ap (λ (n : ℕ). n / 64) f) in
      ap (λ (n : ℕ). nat_eq (bit_at n (r % 64)) 1)
      (get_or-set_other words (k / 64) (r / 64) _ 0 ne)
      ∙ xor_none (word_bit words r)
      ∙ ap (λ (b : Bool). word_bit words r ⊻ b) (sym (ne_eqb r k apart))
]
  where
    same_test : r / 64 ≡ k / 64 → nat_eq (r % 64) (k % 64) ≡ nat_eq r k
    same_test e = elim (cases_eq r k) [
      | inl f ↦ let g : r % 64 ≡ k % 64 = ap (λ (n : ℕ). n % 64) f in
          eq-eqb (r % 64) (k % 64) g ∙ sym (eq-eqb r k f)
      | inr ne ↦ let apart : (r % 64 ≡ k % 64) → ⊥ = λ g. ne (omega arith) in
          ne_eqb (r % 64) (k % 64) apart ∙ sym (ne_eqb r k ne)
    ]

no_words : (n i : ℕ) → slice_index (replicate n 0) i ≡ 0
no_words zero i = refl
no_words (suc n) zero = refl
no_words (suc n) (suc i) = no_words n i

-- words that are all 0
pub zero_words : (n k : ℕ) → word_bit (replicate n 0) k ≡ false
zero_words n k =
    ap (λ (w : ℕ). nat_eq (bit_at w (k % 64)) 1) (no_words n (k / 64))
    ∙ ap (λ (b : ℕ). nat_eq b 1) (bit_at-zero (k % 64))

unequal : (a b : Bool) → not (beq a b) ≡ b ⊻ a
unequal a b = grind arith

-- one more bit of a sum
pub parity_more : (f : Bits) (k : ℕ) (a b : Bool) → a ≡ odd k f → b ≡ f k →
    not (beq a b) ≡ odd (k + 1) f
unfolding odd
parity_more f k a b e g =
    let more : k + 1 ≡ suc k = omega arith in
    unequal a b ∙ ap₂ (λ (b a : Bool). b ⊻ a) g e ∙ ap (λ (n : ℕ). odd n f) (sym more)
