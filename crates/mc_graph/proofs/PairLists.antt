-- Lists of the pairs that pass a test.
use Rattle.std.proofs.Common.{◌≡◌, ℕ, zero, suc, ◌<◌, ◌≤◌, Bool, false, cond, ◌&&◌, List, [], ◌∷◌}
use Rattle.std.proofs.Common.{◌++◌, refl, ◌∙◌, ap, ap₂, arith}
use Rattle.std.specs.Prelude.{nat_lt}
use Rattle.std.proofs.lemmas.List.{append-nil}
use Rattle.std.proofs.lemmas.Bool.{cases_lt, lt-ltb, le-ltb}
use mathlib.Core.Logic.{inl, inr}
use Rattle.mc_model.specs.Numbers.{pairs_at, pairs_below}

and_none : (a b : Bool) → b ≡ false → a && b ≡ false
and_none a b e = grind arith

-- ---- pairs that pass one of two tests that agree

pairs_at-same : {A : Type 0} (make : ℕ → ℕ → A) (p q : ℕ → ℕ → Bool) (i n : ℕ) →
    ((j : ℕ) → i < j → j < n → p i j ≡ q i j) → pairs_at make p i n ≡ pairs_at make q i n
unfolding pairs_at
pairs_at-same make p q i zero h = refl
pairs_at-same make p q i (suc n) h =
    ap₂ (λ (es : List _) (b : Bool). es ++ cond b (make i n ∷ []) [])
    (pairs_at-same make p q i n (λ j l m. h j l (omega arith)))
    (elim (cases_lt i n) [
      | inl l ↦ rw (lt-ltb i n l) (h n l (omega arith))
      | inr l ↦ rw (le-ltb i n l) refl
    ])

pairs_rows-same : {A : Type 0} (make : ℕ → ℕ → A) (p q : ℕ → ℕ → Bool) (n m : ℕ) →
    ((i j : ℕ) → i < m → i < j → j < n → p i j ≡ q i j) →
    pairs_below make p n m ≡ pairs_below make q n m
unfolding pairs_below
pairs_rows-same make p q n zero h = refl
pairs_rows-same make p q n (suc m) h =
    ap₂ (λ (es fs : List _). es ++ fs)
    (pairs_rows-same make p q n m (λ i j a b c. h i j (omega arith) b c))
    (pairs_at-same make p q m n (λ j a b. h m j (omega arith) a b))

pub pairs_below-same : {A : Type 0} (make : ℕ → ℕ → A) (p q : ℕ → ℕ → Bool) (n : ℕ) →
    ((i j : ℕ) → i < j → j < n → p i j ≡ q i j) →
    pairs_below make p n n ≡ pairs_below make q n n
pairs_below-same make p q n h = pairs_rows-same make p q n n (λ i j a b c. h i j b c)

-- ---- one more number that passes with none

row_more : {A : Type 0} (make : ℕ → ℕ → A) (p : ℕ → ℕ → Bool) (i n : ℕ) → p i n ≡ false →
    pairs_at make p i (suc n) ≡ pairs_at make p i n
unfolding pairs_at
row_more make p i n none =
    ap (λ (b : Bool). pairs_at make p i n ++ cond b (make i n ∷ []) []) (and_none (nat_lt i n) (p i n) none)
    ∙ append-nil (pairs_at make p i n)

rows_more : {A : Type 0} (make : ℕ → ℕ → A) (p : ℕ → ℕ → Bool) (n m : ℕ) →
    ((i : ℕ) → p i n ≡ false) → pairs_below make p (suc n) m ≡ pairs_below make p n m
unfolding pairs_below
rows_more make p n zero none = refl
rows_more make p n (suc m) none =
    ap₂ (λ (es fs : List _). es ++ fs) (rows_more make p n m none) (row_more make p m n (none m))

-- the last row is empty
last_row : {A : Type 0} (make : ℕ → ℕ → A) (p : ℕ → ℕ → Bool) (i n : ℕ) → n ≤ suc i →
    pairs_at make p i n ≡ []
unfolding pairs_at
last_row make p i zero l = refl
last_row make p i (suc n) l =
    ap₂ (λ (es : List _) (b : Bool). es ++ cond (b && p i n) (make i n ∷ []) [])
    (last_row make p i n (omega arith)) (le-ltb i n (omega arith))

pub pairs_below-more : {A : Type 0} (make : ℕ → ℕ → A) (p : ℕ → ℕ → Bool) (n : ℕ) →
    ((i : ℕ) → p i n ≡ false) → pairs_below make p (suc n) (suc n) ≡ pairs_below make p n n
unfolding pairs_below
pairs_below-more make p n none =
    ap₂ (λ (es fs : List _). es ++ fs) (rows_more make p n n none)
    (last_row make p n (suc n) (omega arith))
    ∙ append-nil (pairs_below make p n n)

row_none : {A : Type 0} (make : ℕ → ℕ → A) (p : ℕ → ℕ → Bool) (i k : ℕ) →
    ((j : ℕ) → p i j ≡ false) → pairs_at make p i k ≡ []
unfolding pairs_at
row_none make p i zero none = refl
row_none make p i (suc k) none =
    ap₂ (λ (es : List _) (b : Bool). es ++ cond b (make i k ∷ []) []) (row_none make p i k none)
    (and_none (nat_lt i k) (p i k) (none k))

pub pairs_below-none : {A : Type 0} (make : ℕ → ℕ → A) (p : ℕ → ℕ → Bool) (n m : ℕ) →
    ((i j : ℕ) → p i j ≡ false) → pairs_below make p n m ≡ []
unfolding pairs_below pairs_at
pairs_below-none make p n zero none = refl
pairs_below-none make p n (suc m) none =
    ap₂ (λ (es fs : List _). es ++ fs) (pairs_below-none make p n m none) (row_none make p m n (none m))
