-- Bits of words from a place on.
use Rattle.std.specs.Prelude.{◌≡◌, ◌≢◌, ◌⊎◌, ℕ, ◌+◌, ◌-◌, ◌*◌, ◌/◌, ◌%◌, ◌^◌}
use Rattle.std.specs.Prelude.{◌<◌, ◌≤◌, false, nat_eq, List, length, slice_index, slice_set}
use Rattle.std.specs.Prelude.{bit_or, bit_and, Option, Some, None, MatchOption}
use Rattle.std.proofs.Common.{arith, sym, ap, ap₂, ◌∙◌, inl, inr, w64, get_or-set_same}
use Rattle.std.proofs.Common.{get_or-set_other}
use Rattle.std.specs.Int.{bit_at, trailing_zeros}
use Rattle.std.proofs.lemmas.Bool.{eq-eqb}
use Rattle.std.proofs.lemmas.List.{get_or_past}
use Rattle.std.proofs.lemmas.Nat.{shr-shr, shr_le, shr_split, and_mask, or_shifted}
use Rattle.std.proofs.lemmas.Nat.Bits.{bit_at-zero, bit_at-trailing_zeros, bit_at_above}
use Rattle.std.proofs.lemmas.Nat.Bits.{bit_at_cat_low, bit_at_cat_high}
use Rattle.std.proofs.Math.Nat.{mod-eq_of_lt}
use Rattle.mc_model.specs.Bits.{Bits}
use Rattle.mc_bits.specs.Words.{bits_in, word_bit, IsNextBit, HasNoBit}

pub sides : (a b : ℕ) → (a < b) ⊎ (b ≤ a)
sides a b = grind arith

-- ---- one word

shifted_bit : (n s j : ℕ) → bit_at (n / 2 ^ s) j ≡ bit_at n (s + j)
shifted_bit n s j = ap (λ (m : ℕ). m % 2) (shr-shr n s j)

-- nothing is left from the bit `s` on
pub none_left : (n s : ℕ) → n / 2 ^ s ≡ 0 → HasNoBit (bits_in n) s 64
none_left n s e r l g =
    let same : r ≡ s + (r - s) = omega arith in
    ap (λ (b : ℕ). nat_eq b 1) (
    ap (λ (k : ℕ). bit_at n k) same
    ∙ sym (shifted_bit n s (r - s))
    ∙ ap (λ (m : ℕ). bit_at m (r - s)) e
    ∙ bit_at-zero (r - s))

-- what is left has a first bit
pub first_left : (n s : ℕ) → n < 2 ^ 64 → n / 2 ^ s ≢ 0 →
    IsNextBit (bits_in n) s 64 (s + trailing_zeros w64 (n / 2 ^ s))
first_left n s fits some =
    let small : n / 2 ^ s < 2 ^ 64 = let le = shr_le n s in omega arith in
    let lowest = bit_at-trailing_zeros w64 (n / 2 ^ s) (omega arith) small in
    let t = trailing_zeros w64 (n / 2 ^ s) in
    let one : bit_at n (s + t) ≡ 1 = sym (shifted_bit n s t) ∙ lowest.1 in
    record {
      above = omega arith;
      below = elim (sides (s + t) 64) [
        | inl lt ↦ lt
        | inr ge ↦ let none = bit_at_above n 64 (s + t) fits ge in absurd (omega arith)
      ];
      has = eq-eqb (bit_at n (s + t)) 1 one;
      first = λ r l g.
          let same : r ≡ s + (r - s) = omega arith in
          ap (λ (b : ℕ). nat_eq b 1) (
          ap (λ (k : ℕ). bit_at n k) same
          ∙ sym (shifted_bit n s (r - s))
          ∙ lowest.2 (r - s) (omega arith));
    }

-- ---- one word among the others

bit_there : (words : List ℕ) (k i j : ℕ) → k / 64 ≡ i → k % 64 ≡ j →
    word_bit words k ≡ bits_in (slice_index words i) j
bit_there words k i j e f = ap₂ (λ (a b : ℕ). bits_in (slice_index words a) b) e f

in_word : (words : List ℕ) (i k : ℕ) → k < 64 →
    word_bit words (64 * i + k) ≡ bits_in (slice_index words i) k
in_word words i k l = bit_there words (64 * i + k) i k (omega arith) (omega arith)

-- behind the last word each bit is 0
past_words : (words : List ℕ) (k : ℕ) → length words ≤ k / 64 → word_bit words k ≡ false
past_words words k l =
    ap (λ (word : ℕ). bits_in word (k % 64)) (get_or_past words (k / 64) 0 l)
    ∙ ap (λ (b : ℕ). nat_eq b 1) (bit_at-zero (k % 64))

module _ (words : List ℕ) (low i from : ℕ)
    (none : HasNoBit (word_bit words) low (64 * i + from)) where
  -- the word `i` has no bit below `high`
  pub none_further : (high : ℕ) → high ≤ 64 →
      HasNoBit (bits_in (slice_index words i)) from high →
      HasNoBit (word_bit words) low (64 * i + high)
  none_further high small h r l g = elim (sides r (64 * i + from)) [
    | inl lt ↦ none r l lt
    | inr ge ↦
        let same : r ≡ 64 * i + (r - 64 * i) = omega arith in
        ap (word_bit words) same
        ∙ in_word words i (r - 64 * i) (omega arith)
        ∙ h (r - 64 * i) (omega arith) (omega arith)
  ]

  module _ (above : low ≤ 64 * i + from) (k : ℕ)
      (next : IsNextBit (bits_in (slice_index words i)) from 64 k) where
    pub next_there : (high : ℕ) → 64 * i + k < high →
        IsNextBit (word_bit words) low high (64 * i + k)
    next_there high l =
        let from_on = next.above in
        let small = next.below in
        record {
          above = omega arith;
          below = l;
          has = in_word words i k small ∙ next.has;
          first = none_further k (omega arith) next.first;
        }

    pub none_below : (high : ℕ) → high ≤ 64 * i + k → HasNoBit (word_bit words) low high
    none_below high l r g h =
        let small = next.below in
        none_further k (omega arith) next.first r g (omega arith)

-- ---- bits that are alike

pub next_alike : (f g : Bits) (low high : ℕ) (found : Option ℕ) →
    ((r : ℕ) → r < high → f r ≡ g r) →
    MatchOption found (HasNoBit f low high) (IsNextBit f low high) →
    MatchOption found (HasNoBit g low high) (IsNextBit g low high)
next_alike f g low high None same h = λ r l u. sym (same r u) ∙ h r l u
next_alike f g low high (Some t) same h =
    let below = h.below in
    record {
      above = h.above;
      below = h.below;
      has = sym (same t h.below) ∙ h.has;
      first = λ r l u. sym (same r (omega arith)) ∙ h.first r l u;
    }

-- ---- a word that is cut out of two

-- the low bits
low_bit : (n j : ℕ) → j < 64 → bit_at (n % 2 ^ 64) j ≡ bit_at n j
low_bit n j l =
    sym (bit_at_cat_low (n / 2 ^ 64) 64 (n % 2 ^ 64) j l)
    ∙ ap (λ (m : ℕ). bit_at m j) (shr_split n 64)

pub cut_bit : (word next k j : ℕ) → word < 2 ^ 64 → next < 2 ^ 64 → j < 64 →
    bit_at (bit_and (bit_or (next * 2 ^ 64 % 2 ^ 128) word / 2 ^ k) (2 ^ 64 - 1)) j
    ≡ bit_at (next * 2 ^ 64 + word) (k + j)
cut_bit word next k j small fits l =
    let both = next * 2 ^ 64 + word in
    let within : next * 2 ^ 64 < 2 ^ 128 = omega arith in
    ap (λ (n : ℕ). bit_at (bit_and (bit_or n word / 2 ^ k) (2 ^ 64 - 1)) j) (mod-eq_of_lt within)
    ∙ ap (λ (n : ℕ). bit_at (bit_and (n / 2 ^ k) (2 ^ 64 - 1)) j) (or_shifted next 64 word small)
    ∙ ap (λ (n : ℕ). bit_at n j) (and_mask (both / 2 ^ k) 64)
    ∙ low_bit (both / 2 ^ k) j l
    ∙ shifted_bit both k j

module _ (words : List ℕ) (low : ℕ) where
  -- the word `i` of those from `low` on
  pub bit_from : (i j word next : ℕ) → word ≡ slice_index words (low / 64 + i) → word < 2 ^ 64 →
      next ≡ slice_index words (low / 64 + i + 1) → j < 64 →
      nat_eq (bit_at (next * 2 ^ 64 + word) (low % 64 + j)) 1
      ≡ word_bit words (low + (64 * i + j))
  bit_from i j word next e small f l = elim (sides (low % 64 + j) 64) [
    | inl lt ↦
        ap (λ (b : ℕ). nat_eq b 1) (bit_at_cat_low next 64 word (low % 64 + j) lt)
        ∙ ap (λ (n : ℕ). bits_in n (low % 64 + j)) e
        ∙ sym (bit_there words (low + (64 * i + j)) (low / 64 + i) (low % 64 + j) (omega arith)
        (omega arith))
    | inr ge ↦
        ap (λ (b : ℕ). nat_eq b 1) (bit_at_cat_high next 64 word (low % 64 + j) small ge)
        ∙ ap (λ (n : ℕ). bits_in n (low % 64 + j - 64)) f
        ∙ sym (bit_there words (low + (64 * i + j)) (low / 64 + i + 1) (low % 64 + j - 64)
        (omega arith) (omega arith))
  ]

  pub one_more_word : (moved : List ℕ) (i cut : ℕ) → i < length moved →
      ((k : ℕ) → k < 64 * i → word_bit moved k ≡ word_bit words (low + k)) →
      ((j : ℕ) → j < 64 → bits_in cut j ≡ word_bit words (low + (64 * i + j))) →
      (k : ℕ) → k < 64 * (i + 1) → word_bit (slice_set moved i cut) k ≡ word_bit words (low + k)
  one_more_word moved i cut within done new k l = elim (sides k (64 * i)) [
    | inl lt ↦
        let other : k / 64 ≢ i = omega arith in
        ap (λ (word : ℕ). bits_in word (k % 64)) (get_or-set_other moved i (k / 64) cut 0 other)
        ∙ done k lt
    | inr ge ↦
        let j = k - 64 * i in
        let same : 64 * i + j ≡ k = omega arith in
        bit_there (slice_set moved i cut) k i j (omega arith) (omega arith)
        ∙ ap (λ (word : ℕ). bits_in word j) (get_or-set_same moved i cut 0 within)
        ∙ new j (omega arith)
        ∙ ap (λ (m : ℕ). word_bit words (low + m)) same
  ]

  pub all_words : (moved : List ℕ) (i : ℕ) → length words ≤ i → length moved ≤ i →
      ((k : ℕ) → k < 64 * i → word_bit moved k ≡ word_bit words (low + k)) →
      (k : ℕ) → word_bit moved k ≡ word_bit words (low + k)
  all_words moved i long long' done k = elim (sides k (64 * i)) [
    | inl lt ↦ done k lt
    | inr ge ↦
        past_words moved k (omega arith) ∙ sym (past_words words (low + k) (omega arith))
  ]
