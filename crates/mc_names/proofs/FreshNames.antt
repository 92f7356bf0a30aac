-- The name that is computed is fresh, and fresh names are names.
use Rattle.std.proofs.Common.{◌≡◌, ℕ, zero, suc, ◌+◌, ◌/◌, ◌%◌, ◌<◌, ◌≤◌, List, [], ◌∷◌}
use Rattle.std.proofs.Common.{◌++◌, Bool}
use Rattle.std.proofs.Common.{true, false, ◌||◌, ◌&&◌, length, refl, sym, ◌∙◌, ap, arith, inl, inr}
use Rattle.std.proofs.Common.{IsTrue, length-append}
use Rattle.std.specs.Prelude.{nat_le, ◌==◌}
use Rattle.std.specs.Cmp.Lexicographic.{nat_list_eq_equiv}
use Rattle.std.proofs.lemmas.Bool.{le-leb, cases_Bool, cases_lt}
use Rattle.std.proofs.lemmas.Map.Keys.{IsDistinct-push}
use Rattle.std.proofs.lemmas.List.Elements.{All-append, All-cons, All-nil}
use Rattle.mc_model.specs.Names.{Name, is_name_byte, is_name, is_held, numbered, fresh_name}
use Rattle.mc_model.specs.Names.{IsFresh}
use Rattle.mc_model.specs.Names.{with_fresh, AreNames}
use Rattle.mc_names.proofs.Numbered.{decimal_one, decimal_two, decimal_three, held_few, held_more}
use Rattle.mc_names.proofs.Numbered.{fresh_name-least}

-- the number of the fresh name
record FreshNumber (names : List Name) : Type 0 where
  number : ℕ
  positive : 0 < number
  most : number ≤ length names + 1
  free : is_held names (numbered number) ≡ false
  below : (j : ℕ) → 0 < j → j < number → is_held names (numbered j) ≡ true
  same : numbered number ≡ fresh_name names

find_free : (names : List Name) (m j : ℕ) → length names < 1000 → m + j ≡ length names + 2 → 0 < j →
    ((i : ℕ) → 0 < i → i < j → is_held names (numbered i) ≡ true) → FreshNumber names
find_free names zero j few e p held =
    let over = held_few names (length names + 1) (omega arith) (λ i q l. held i q (omega arith)) in
    absurd (omega arith)
find_free names (suc m) j few e p held = elim (cases_Bool (is_held names (numbered j))) [
  | inl here ↦
      find_free names m (suc j) few (omega arith) (omega arith)
      (λ i q l. held_more names j held here i q (omega arith))
  | inr free ↦ record {
    number = j;
    positive = p;
    most = omega arith;
    free = free;
    below = held;
    same = fresh_name-least names j p (omega arith) held free;
  }
]

fresh_number : (names : List Name) → length names < 1000 → FreshNumber names
fresh_number names few =
    find_free names (length names + 1) 1 few (omega arith) (omega arith)
    (λ i p l. absurd (omega arith))

-- the name that is computed is fresh
pub fresh_is_fresh : (names : List Name) → length names < 1000 → IsFresh names (fresh_name names)
fresh_is_fresh names few =
    let fresh = fresh_number names few in (
      fresh.number,
      fresh.positive,
      sym fresh.same,
      ap (is_held names) (sym fresh.same) ∙ fresh.free,
      fresh.below,
    )

digit_is_byte : (b : ℕ) → 48 ≤ b → b ≤ 57 → is_name_byte b ≡ true
digit_is_byte b low high =
    rw (le-leb 48 b low, le-leb b 57 high)
    (digit_bits (nat_le 97 b && nat_le b 122) (nat_le 65 b && nat_le b 90) (b == 95))
  where
    digit_bits : (c d e : Bool) → (c || d || (true && true) || e) ≡ true
    digit_bits c d e = grind arith

numbered_is_name : (k : ℕ) → k < 1000 → IsTrue (is_name (numbered k))
numbered_is_name k few = elim (cases_lt k 10) [
  | inl l ↦ (let one = digit_is_byte (48 + k % 10) (omega arith) (omega arith) in
      rw (decimal_one k l, one) refl)
  | inr h ↦ elim (cases_lt k 100) [
    | inl l ↦ (let one = digit_is_byte (48 + k % 10) (omega arith) (omega arith) in
        let ten = digit_is_byte (48 + k / 10 % 10) (omega arith) (omega arith) in
        rw (decimal_two k h l, one, ten) refl)
    | inr g ↦ (let one = digit_is_byte (48 + k % 10) (omega arith) (omega arith) in
        let ten = digit_is_byte (48 + k / 10 % 10) (omega arith) (omega arith) in
        let hundred = digit_is_byte (48 + k / 100) (omega arith) (omega arith) in
        rw (decimal_three k g few, one, ten, hundred) refl)
  ]
]

one_fresh : (names : List Name) → AreNames names → length names < 256 →
    AreNames (names ++ (fresh_name names ∷ []))
one_fresh names h few =
    let fresh = fresh_number names (omega arith) in
    let most = fresh.most in
    let long = length-append names (fresh_name names ∷ []) in
    record {
      distinct =
          IsDistinct-push nat_list_eq_equiv names (fresh_name names) h.distinct
          (ap (is_held names) (sym fresh.same) ∙ fresh.free);
      valid =
          All-append (λ (name : Name). IsTrue (is_name name)) names (fresh_name names ∷ []) h.valid
          (All-cons (λ (name : Name). IsTrue (is_name name)) (fresh_name names) []
          (ap is_name (sym fresh.same) ∙ numbered_is_name fresh.number (omega arith))
          (All-nil (λ (name : Name). IsTrue (is_name name))));
      few = omega arith;
    }

pub with_fresh_names : (n : ℕ) (names : List Name) → AreNames names → length names + n ≤ 256 →
    AreNames (with_fresh n names)
with_fresh_names zero names h few = h
with_fresh_names (suc n) names h few =
    let long = length-append names (fresh_name names ∷ []) in
    with_fresh_names n (names ++ (fresh_name names ∷ [])) (one_fresh names h (omega arith))
    (omega arith)
