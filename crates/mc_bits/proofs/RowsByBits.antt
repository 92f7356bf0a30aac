-- Rows by their bits.
use Rattle.std.specs.Prelude.{◌≡◌, ℕ, zero, suc, ◌<◌, ◌≤◌, Bool, true, false, not, nat_eq, List, []}
use Rattle.std.specs.Prelude.{◌∷◌, length, replicate, refl}
use Rattle.std.proofs.Common.{arith, sym, ap, ap₂, ◌∙◌, inl, inr, get_or-set_same, get_or-set_other}
use Rattle.std.proofs.lemmas.Bool.{eq-eqb, ne_eqb, cases_eq}
use Rattle.std.proofs.lemmas.List.{get_or_past}
use Rattle.std.proofs.lemmas.List.FromFn.{get_or-map-range_with_len, length-map-range_with_len}
use Rattle.std.proofs.lemmas.List.FromFn.{fill_by_all}
use Rattle.std.proofs.Math.ListN.{length-set}
use Rattle.mc_model.specs.Bits.{◌⊻◌}
use Rattle.mc_bits.specs.Words.{word_bit, IsClearFrom}
use Rattle.mc_bits.specs.Rows.{row_of, bit_of, flipped, row_sum}
use Rattle.mc_bits.proofs.BitsFrom.{sides}

pub row_of-length : (n : ℕ) (words : List ℕ) → length (row_of n words) ≡ n
row_of-length n words = length-map-range_with_len (word_bit words) 0 n

pub row_of-bit : (n : ℕ) (words : List ℕ) (k : ℕ) → k < n →
    bit_of (row_of n words) k ≡ word_bit words k
row_of-bit n words k h =
    get_or-map-range_with_len (word_bit words) 0 n k k false h (omega arith)

-- a row is known by its length and its bits
pub row_by_bits : (row : List Bool) (n : ℕ) (words : List ℕ) → length row ≡ n →
    ((k : ℕ) → k < n → bit_of row k ≡ word_bit words k) → row_of n words ≡ row
row_by_bits row n words e h = sym (fill_by_all (word_bit words) row n false e h)

-- behind a row's end each bit is 0
pub past_end : (row : List Bool) (k : ℕ) → length row ≤ k → bit_of row k ≡ false
past_end row k h = get_or_past row k false h

-- where the words are 0 from the row's end on, each bit is theirs
pub clear_bit : (n : ℕ) (words : List ℕ) → IsClearFrom n words → (k : ℕ) →
    bit_of (row_of n words) k ≡ word_bit words k
clear_bit n words clear k = elim (sides k n) [
  | inl lt ↦ row_of-bit n words k lt
  | inr ge ↦
      past_end (row_of n words) k (omega (arith, row_of-length n words)) ∙ sym (clear k ge)
]

xor_false : (a : Bool) → a ⊻ false ≡ a
xor_false a = grind arith

pub row_sum-length : (row other : List Bool) → length (row_sum row other) ≡ length row
row_sum-length [] other = refl
row_sum-length (b ∷ row) [] = refl
row_sum-length (b ∷ row) (c ∷ other) = ap suc (row_sum-length row other)

pub row_sum-bit : (row other : List Bool) → length other ≡ length row → (k : ℕ) →
    bit_of (row_sum row other) k ≡ (bit_of row k ⊻ bit_of other k)
row_sum-bit [] [] e k = refl
row_sum-bit [] (c ∷ other) e k = absurd (omega arith)
row_sum-bit (b ∷ row) [] e k = absurd (omega arith)
row_sum-bit (b ∷ row) (c ∷ other) e zero = refl
row_sum-bit (b ∷ row) (c ∷ other) e (suc k) = row_sum-bit row other (omega arith) k

pub flipped-length : (k : ℕ) (row : List Bool) → length (flipped k row) ≡ length row
flipped-length k row = length-set row k (not (bit_of row k))

changed : (a : Bool) → not a ≡ a ⊻ true
changed a = grind arith

pub flipped-bit : (k : ℕ) (row : List Bool) → k < length row → (r : ℕ) →
    bit_of (flipped k row) r ≡ (bit_of row r ⊻ nat_eq r k)
flipped-bit k row h r = elim (cases_eq r k) [
  | inl e ↦
      ap (λ (i : ℕ). bit_of (flipped k row) i) e
      ∙ get_or-set_same row k (not (bit_of row k)) false h
      ∙ changed (bit_of row k)
      ∙ ap₂ (λ (a b : Bool). a ⊻ b) (ap (bit_of row) (sym e)) (sym (eq-eqb r k e))
  | inr ne ↦
      get_or-set_other row k r (not (bit_of row k)) false ne
      ∙ sym (xor_false (bit_of row r))
      ∙ ap (λ (b : Bool). bit_of row r ⊻ b) (sym (ne_eqb r k ne))
]

pub no_bits : (n k : ℕ) → bit_of (replicate n false) k ≡ false
no_bits zero k = refl
no_bits (suc n) zero = refl
no_bits (suc n) (suc k) = no_bits n k
