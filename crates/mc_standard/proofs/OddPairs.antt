-- A table of pairs in which one is counted once more, and the pairs that are listed from it.
use Rattle.std.proofs.Common.{◌≡◌, ℕ, zero, suc, ◌+◌, ◌-◌, ◌*◌, ◌<◌, ◌≤◌, Bool, true, false, cond}
use Rattle.std.proofs.Common.{◌&&◌, List, [], ◌∷◌, ◌++◌, replicate, refl, sym, ◌∙◌, ap, ap₂}
use Rattle.std.proofs.Common.{arith, append-nil}
use Rattle.std.specs.Prelude.{nat_eq, nat_lt}
use Rattle.std.proofs.lemmas.Bool.{eq-eqb, ne_eqb, lt-ltb, le-ltb, cases_eq, cases_lt}
use mathlib.Core.Logic.{inl, inr}
use Rattle.mc_model.specs.Bits.{◌⊻◌, same_pair}
use Rattle.mc_model.specs.Numbers.{pairs_at, pairs_below}
use Rattle.mc_bits.specs.Words.{word_bit}
use Rattle.mc_bits.proofs.BitsOfWords.{zero_words}
use Rattle.mc_standard.specs.NextBits.{IsNext}
use Rattle.mc_standard.specs.OddPairs.{is_odd}

-- ---- no pair

pub none_odd : (words : List ℕ) → words ≡ replicate 1024 0 → (i j : ℕ) →
    is_odd words i j ≡ false
none_odd words e i j =
    ap (λ (ws : List ℕ). word_bit ws (i * 256 + j)) e ∙ zero_words 1024 (i * 256 + j)

-- ---- one pair

one_pair : (i j low high : ℕ) → i ≡ low → j ≡ high → same_pair i j low high ≡ true
one_pair i j low high e f = rw (eq-eqb i low e, eq-eqb j high f) refl

other_pair : (i j low high : ℕ) → i < j → low < high → (i * 256 + j ≡ low * 256 + high → ⊥) →
    same_pair i j low high ≡ false
other_pair i j low high h g ne = elim (cases_eq i low) [
  | inl e ↦
      let far : j ≡ high → ⊥ = λ f. ne (ap₂ (λ (a b : ℕ). a * 256 + b) e f) in
      let less : i ≡ high → ⊥ = λ f. absurd (omega arith) in
      rw (eq-eqb i low e, ne_eqb j high far, ne_eqb i high less) refl
  | inr far ↦ elim (cases_eq i high) [
    | inl f ↦
        let more : j ≡ low → ⊥ = λ e. absurd (omega arith) in
        rw (ne_eqb i low far, eq-eqb i high f, ne_eqb j low more) refl
    | inr other ↦ rw (ne_eqb i low far, ne_eqb i high other) refl
  ]
]

place_apart : (i j low high : ℕ) → j < 256 → high < 256 → i * 256 + j ≡ low * 256 + high →
    (i ≡ low) × (j ≡ high)
place_apart i j low high h g e = (omega arith, omega arith)

-- the bit of a pair is changed at its place alone
pub pair_flipped : (odd more : List ℕ) (low high : ℕ) → low < high → high < 256 →
    ((k : ℕ) → word_bit more k ≡ (word_bit odd k ⊻ nat_eq k (low * 256 + high))) →
    (i j : ℕ) → i < j → j < 256 → is_odd more i j ≡ is_odd odd i j ⊻ same_pair i j low high
pair_flipped odd more low high order within changed i j h g =
    changed (i * 256 + j)
    ∙ ap (λ (b : Bool). is_odd odd i j ⊻ b) (elim (cases_eq (i * 256 + j) (low * 256 + high)) [
      | inl e ↦
          let same = place_apart i j low high g within e in
          eq-eqb (i * 256 + j) (low * 256 + high) e
          ∙ sym (one_pair i j low high same.0 same.1)
      | inr ne ↦
          ne_eqb (i * 256 + j) (low * 256 + high) ne
          ∙ sym (other_pair i j low high h order ne)
    ])

-- ---- lists of pairs

pub pairs_at-next : {A : Type 0} (make : ℕ → ℕ → A) (p : ℕ → ℕ → Bool) (i j : ℕ) →
    pairs_at make p i (j + 1)
    ≡ pairs_at make p i j ++ cond (nat_lt i j && p i j) (make i j ∷ []) []
unfolding pairs_at
pairs_at-next make p i j = let e : j + 1 ≡ suc j = omega arith in ap (pairs_at make p i) e

pub pairs_below-next : {A : Type 0} (make : ℕ → ℕ → A) (p : ℕ → ℕ → Bool) (n m : ℕ) →
    pairs_below make p n (m + 1) ≡ pairs_below make p n m ++ pairs_at make p m n
unfolding pairs_below
pairs_below-next make p n m = let e : m + 1 ≡ suc m = omega arith in ap (pairs_below make p n) e

pub pairs_at-none : {A : Type 0} (make : ℕ → ℕ → A) (p : ℕ → ℕ → Bool) (i : ℕ) →
    pairs_at make p i 0 ≡ []
unfolding pairs_at
pairs_at-none make p i = refl

-- numbers with which no pair passes
pairs_at-skip : {A : Type 0} (make : ℕ → ℕ → A) (p : ℕ → ℕ → Bool) (i m n : ℕ) → m ≤ n →
    ((k : ℕ) → m ≤ k → k < n → (nat_lt i k && p i k) ≡ false) →
    pairs_at make p i n ≡ pairs_at make p i m
unfolding pairs_at
pairs_at-skip make p i m zero le none =
    let e : 0 ≡ m = omega arith in ap (pairs_at make p i) e
pairs_at-skip make p i m (suc n) le none = elim (cases_eq m (suc n)) [
  | inl e ↦ ap (pairs_at make p i) (sym e)
  | inr ne ↦
      ap₂ (λ (xs : List _) (b : Bool). xs ++ cond b (make i n ∷ []) [])
      (pairs_at-skip make p i m n (omega arith) (λ k l h. none k l (omega arith)))
      (none n (omega arith) (omega arith))
      ∙ append-nil (pairs_at make p i m)
]

-- the pairs of a row up to its first
pub row_begun : {A : Type 0} (make : ℕ → ℕ → A) (odd : List ℕ) (i end place : ℕ) →
    IsNext (word_bit odd) (i * 256 + i + 1) end place →
    pairs_at make (is_odd odd) i (place - i * 256) ≡ []
row_begun make odd i end place next =
    pairs_at-skip make (is_odd odd) i 0 (place - i * 256) (omega arith)
    (λ k l h. elim (cases_lt i k) [
      | inl more ↦
          ap (λ (b : Bool). nat_lt i k && b) (next.none (i * 256 + k) (omega arith) (omega arith))
          ∙ and_false (nat_lt i k)
      | inr less ↦ ap (λ (b : Bool). b && is_odd odd i k) (le-ltb i k less)
    ])
    ∙ pairs_at-none make (is_odd odd) i
  where
    and_false : (b : Bool) → (b && false) ≡ false
    and_false b = grind arith

-- with one more, up to the next
pub row_more : {A : Type 0} (make : ℕ → ℕ → A) (odd : List ℕ) (i end place after : ℕ) →
    i * 256 + i + 1 ≤ place → word_bit odd place ≡ true →
    IsNext (word_bit odd) (place + 1) end after →
    pairs_at make (is_odd odd) i (after - i * 256)
    ≡ pairs_at make (is_odd odd) i (place - i * 256) ++ (make i (place - i * 256) ∷ [])
row_more make odd i end place after from one next =
    let order = next.order in
    let j : ℕ = place - i * 256 in
    let at : i * 256 + j ≡ place = omega arith in
    let odd_here : is_odd odd i j ≡ true = ap (word_bit odd) at ∙ one in
    pairs_at-skip make (is_odd odd) i (j + 1) (after - i * 256) (omega arith)
    (λ k l h.
    ap (λ (b : Bool). nat_lt i k && b) (next.none (i * 256 + k) (omega arith) (omega arith))
    ∙ and_false (nat_lt i k))
    ∙ pairs_at-next make (is_odd odd) i j
    ∙ ap₂ (λ (a b : Bool). pairs_at make (is_odd odd) i j ++ cond (a && b) (make i j ∷ []) [])
    (lt-ltb i j (omega arith)) odd_here
  where
    and_false : (b : Bool) → (b && false) ≡ false
    and_false b = grind arith

pub pairs_below-none : {A : Type 0} (make : ℕ → ℕ → A) (p : ℕ → ℕ → Bool) (n : ℕ) →
    pairs_below make p n 0 ≡ []
unfolding pairs_below
pairs_below-none make p n = refl

pairs_at-same : {A : Type 0} (make : ℕ → ℕ → A) (p q : ℕ → ℕ → Bool) (n i m : ℕ) → m ≤ n →
    ((i j : ℕ) → i < j → j < n → p i j ≡ q i j) → pairs_at make p i m ≡ pairs_at make q i m
unfolding pairs_at
pairs_at-same make p q n i zero h same = refl
pairs_at-same make p q n i (suc j) h same =
    ap₂ (λ (xs ys : List _). xs ++ ys) (pairs_at-same make p q n i j (omega arith) same)
    (ap (λ (b : Bool). cond b (make i j ∷ []) []) (elim (cases_lt i j) [
      | inl less ↦ ap (λ (b : Bool). nat_lt i j && b) (same i j less (omega arith))
      | inr more ↦ rw (le-ltb i j more) refl
    ]))

pub pairs_below-same : {A : Type 0} (make : ℕ → ℕ → A) (p q : ℕ → ℕ → Bool) (n m : ℕ) →
    ((i j : ℕ) → i < j → j < n → p i j ≡ q i j) →
    pairs_below make p n m ≡ pairs_below make q n m
unfolding pairs_below
pairs_below-same make p q n zero same = refl
pairs_below-same make p q n (suc m) same =
    ap₂ (λ (xs ys : List _). xs ++ ys) (pairs_below-same make p q n m same)
    (pairs_at-same make p q n m n (omega arith) same)
