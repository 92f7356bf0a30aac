-- The next place in words with the bit 1.
use Rattle.std.proofs.Common.{◌≡◌, ℕ, ◌+◌, ◌-◌, ◌*◌, ◌/◌, ◌%◌, ◌^◌, ◌<◌, ◌≤◌, true, false}
use Rattle.std.proofs.Common.{List, min, refl, sym, ap, ap₂, ◌∙◌, arith, nat_eq, nat_lt, subst}
use Rattle.std.specs.Prelude.{slice_index}
use Rattle.std.specs.Int.{bit_at, trailing_zeros, w64}
use Rattle.std.specs.Int.Count.{count_trailing_zeros}
use Rattle.std.proofs.lemmas.Bool.{cases_Bool, cases_lt, ltb-true, ltb-false}
use Rattle.std.proofs.lemmas.Nat.{shr-shr, shr_le}
use Rattle.std.proofs.lemmas.Nat.Bits.{bit_at-trailing_zeros, bit_at_above, bit_at-zero}
use mathlib.Core.Logic.{inl, inr}
use Rattle.mc_model.specs.Bits.{Bits}
use Rattle.mc_bits.specs.Words.{word_bit}
use Rattle.mc_standard.specs.NextBits.{IsNext}

-- the lowest bit of a word from `k` on that is 1
pub record IsNextBit (word k n : ℕ) : Type 0 where
  pub from : k ≤ n
  pub small : n < 64
  pub set : bit_at word n ≡ 1
  pub none : (i : ℕ) → k ≤ i → i < n → bit_at word i ≡ 0

bit_behind : (word k i : ℕ) → bit_at (word / 2 ^ k) i ≡ bit_at word (k + i)
bit_behind word k i = ap (λ (n : ℕ). n % 2) (shr-shr word k i)

pub next_bit : (word k n : ℕ) → word < 2 ^ 64 → 0 < word / 2 ^ k →
    n ≡ k + count_trailing_zeros 64 (word / 2 ^ k) → IsNextBit word k n
next_bit word k n fits some same =
    let le = shr_le word k in
    let t = trailing_zeros w64 (word / 2 ^ k) in
    let lowest = bit_at-trailing_zeros w64 (word / 2 ^ k) some (omega arith) in
    let set : bit_at word n ≡ 1 =
    ap (bit_at word) same ∙ sym (bit_behind word k t) ∙ lowest.1 in
    record {
      from = omega arith;
      small = elim (cases_Bool (nat_lt n 64)) [
        | inl e ↦ ltb-true n 64 e
        | inr e ↦
            let none : bit_at word n ≡ 0 = bit_at_above word 64 n fits (ltb-false n 64 e) in
            absurd (omega arith)
      ];
      set = set;
      none = λ i le lt.
          let at : k + (i - k) ≡ i = omega arith in
          ap (bit_at word) (sym at) ∙ sym (bit_behind word k (i - k))
          ∙ lowest.2 (i - k) (omega arith);
    }

-- no bit of a word from `k` on is 1
pub no_bit : (word k i : ℕ) → word / 2 ^ k ≡ 0 → k ≤ i → bit_at word i ≡ 0
no_bit word k i none le =
    let at : k + (i - k) ≡ i = omega arith in
    ap (bit_at word) (sym at) ∙ sym (bit_behind word k (i - k))
    ∙ ap (λ (n : ℕ). bit_at n (i - k)) none ∙ bit_at-zero (i - k)

-- a bit of the word `i`
in_word : (words : List ℕ) (i k : ℕ) → k < 64 →
    word_bit words (64 * i + k) ≡ nat_eq (bit_at (slice_index words i) k) 1
in_word words i k small =
    let whole : (64 * i + k) / 64 ≡ i = omega arith in
    let rest : (64 * i + k) % 64 ≡ k = omega arith in
    ap₂ (λ (j l : ℕ). nat_eq (bit_at (slice_index words j) l) 1) whole rest

in_word_none : (words : List ℕ) (word i k n j : ℕ) → word ≡ slice_index words i → n ≤ 64 →
    ((l : ℕ) → k ≤ l → l < n → bit_at word l ≡ 0) → 64 * i + k ≤ j → j < 64 * i + n →
    word_bit words j ≡ false
in_word_none words word i k n j read small none from below =
    let l : ℕ = j - 64 * i in
    let at : 64 * i + l ≡ j = omega arith in
    ap (word_bit words) (sym at)
    ∙ in_word words i l (omega arith)
    ∙ ap (λ (w : ℕ). nat_eq (bit_at w l) 1) (sym read)
    ∙ ap (λ (b : ℕ). nat_eq b 1) (none l (omega arith) (omega arith))

-- a place with the bit 1, or the end where it comes first
bounded : (f : Bits) (from end n : ℕ) → from ≤ n → from ≤ end →
    ((k : ℕ) → from ≤ k → k < n → f k ≡ false) → f n ≡ true → IsNext f from end (min end n)
bounded f from end n le within none one = elim (cases_lt n end) [
  | inl lt ↦
      let same : n ≡ min end n = omega arith in
      subst (λ (m : ℕ). IsNext f from end m) same
      (record { order = le; within = omega arith; none = none; one = λ h. one })
  | inr past ↦
      let same : end ≡ min end n = omega arith in
      subst (λ (m : ℕ). IsNext f from end m) same
      (record {
        order = within;
        within = omega arith;
        none = λ k g h. none k g (omega arith);
        one = λ h. absurd (omega arith);
      })
]

-- where no bit of the rest of a word is 1
pub none_here : (words : List ℕ) (place : ℕ) →
    slice_index words (place / 64) / 2 ^ (place % 64) ≡ 0 → (k : ℕ) → place ≤ k →
    k < place / 64 * 64 + 64 → word_bit words k ≡ false
none_here words place none k from below =
    in_word_none words (slice_index words (place / 64)) (place / 64) (place % 64) 64 k refl
    (omega arith)
    (λ l le lt. no_bit (slice_index words (place / 64)) (place % 64) l none le)
    (omega arith) (omega arith)

-- where one is
pub next_here : (words : List ℕ) (from end place : ℕ) →
    ((k : ℕ) → from ≤ k → k < place → word_bit words k ≡ false) → from ≤ place → place < end →
    slice_index words (place / 64) < 2 ^ 64 →
    (slice_index words (place / 64) / 2 ^ (place % 64) ≡ 0 → ⊥) →
    IsNext (word_bit words) from end
    (min end (place + count_trailing_zeros 64 (slice_index words (place / 64) / 2 ^ (place % 64))))
next_here words from end place none le lt fits nonzero =
    let word : ℕ = slice_index words (place / 64) in
    let k : ℕ = place % 64 in
    let some : 0 < word / 2 ^ k = omega arith in
    let n : ℕ = k + count_trailing_zeros 64 (word / 2 ^ k) in
    let next = next_bit word k n fits some refl in
    let small = next.small in
    let up = next.from in
    let at : 64 * (place / 64) + n ≡ place + count_trailing_zeros 64 (word / 2 ^ k) = omega arith in
    subst (λ (m : ℕ). IsNext (word_bit words) from end (min end m)) at
    (bounded (word_bit words) from end (64 * (place / 64) + n) (omega arith) (omega arith)
    (λ i g h. elim (cases_lt i place) [
      | inl before ↦ none i g before
      | inr behind ↦
          in_word_none words word (place / 64) k n i refl (omega arith) next.none (omega arith) h
    ])
    (in_word words (place / 64) n small ∙ ap (λ (b : ℕ). nat_eq b 1) next.set))
