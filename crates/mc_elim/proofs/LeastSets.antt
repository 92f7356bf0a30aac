-- Sets that are least: by the columns that are no sums of earlier ones, and by first rows.
use Rattle.std.specs.Prelude.{◌≡◌, ◌≢◌, ◌⊎◌, ℕ, zero, suc, ◌<◌, Bool, true, false, ◌&&◌, refl}
use Rattle.std.proofs.Common.{arith, sym, ap, ap₂, subst, ◌∙◌, inl, inr}
use Rattle.mc_model.specs.Bits.{◌⊻◌, Bits, odd}
use Rattle.mc_model.specs.Flow.{single}
use Rattle.mc_model.specs.Choice.{SameBelow, IsLess}
use Rattle.mc_model.proofs.OddSums.{odd-same, odd-none, odd-xor, odd-and, odd-exchange, odd-one}
use Rattle.mc_model.proofs.OddSums.{xor_and, and_swap}
use Rattle.mc_elim.specs.Systems.{Columns, HasSum, IsEven, IsDependent, Refutes, Solves, IsLeast}
use Rattle.mc_elim.proofs.BitSums.{xor_self, and_left, and_right, clash, last_or_before}
use Rattle.mc_elim.proofs.BitSums.{two_sides, same_or_not, single_itself, single_other, odd-last}
use Rattle.mc_elim.proofs.BitSums.{odd-above}

-- where two sets differ last
pub data Differ (n : ℕ) (s t : Bits) : Type 0 where
  nowhere : SameBelow n s t → Differ n s t
  left : (d : ℕ) → d < n → s d ≡ true → t d ≡ false →
      ((k : ℕ) → k < n → d < k → s k ≡ t k) → Differ n s t
  right : (d : ℕ) → d < n → s d ≡ false → t d ≡ true →
      ((k : ℕ) → k < n → d < k → s k ≡ t k) → Differ n s t

same_more : (n : ℕ) (s t : Bits) (P : ℕ → Type 0) → s n ≡ t n →
    ((k : ℕ) → k < n → P k → s k ≡ t k) → (k : ℕ) → k < suc n → P k → s k ≡ t k
same_more n s t P e h k l p = elim (last_or_before k n l) [
  | inl lt ↦ h k lt p
  | inr eq ↦ subst (λ (x : ℕ). s x ≡ t x) (sym eq) e
]

differ_same : (n : ℕ) (s t : Bits) → s n ≡ t n → Differ n s t → Differ (suc n) s t
differ_same n s t e (nowhere h) =
    nowhere (λ k l. same_more n s t (λ i. Unit {0}) e (λ i m p. h i m) k l tt)
differ_same n s t e (left d l x y h) = left d (omega arith) x y (same_more n s t (λ k. d < k) e h)
differ_same n s t e (right d l x y h) = right d (omega arith) x y (same_more n s t (λ k. d < k) e h)

differ_by : (n : ℕ) (s t : Bits) (a b : Bool) → s n ≡ a → t n ≡ b → Differ n s t →
    Differ (suc n) s t
differ_by n s t true false e f h = left n (omega arith) e f (λ k l m. absurd (omega arith))
differ_by n s t false true e f h = right n (omega arith) e f (λ k l m. absurd (omega arith))
differ_by n s t false false e f h = differ_same n s t (e ∙ sym f) h
differ_by n s t true true e f h = differ_same n s t (e ∙ sym f) h

pub differ : (n : ℕ) (s t : Bits) → Differ n s t
differ zero s t = nowhere (λ k l. absurd (omega arith))
differ (suc n) s t = differ_by n s t (s n) (t n) refl refl (differ n s t)

-- a set is least if no other one lacks the last number in which they differ
pub least_by : (n : ℕ) (P : Bits → Type 0) (s : Bits) → P s →
    ((t : Bits) → P t → (d : ℕ) → d < n → s d ≡ true → t d ≡ false →
    ((k : ℕ) → k < n → d < k → s k ≡ t k) → ⊥) → IsLeast n P s
least_by n P s has none = record { has = has; least = λ t h. by t h (differ n s t) }
  where
    by : (t : Bits) → P t → Differ n s t → SameBelow n s t ⊎ IsLess (λ d k. d < k) n s t
    by t h (nowhere same) = inl same
    by t h (left d l e f same) = absurd (none t h d l e f same)
    by t h (right d l e f same) =
        inr (record { last = d; vertex = l; lacks = e; holds = f; same_after = same })

module _ (n m : ℕ) (columns : Columns) where
  -- ---- sums

  sum_of_both : (s t v : Bits) → HasSum n m columns s v → HasSum n m columns t v →
      (r : ℕ) → r < n → odd m (λ j. (s j ⊻ t j) && columns j r) ≡ false
  sum_of_both s t v h k r l =
      odd-same m (λ j. (s j ⊻ t j) && columns j r)
      (λ j. (s j && columns j r) ⊻ (t j && columns j r))
      (λ j _. xor_and (s j) (t j) (columns j r))
      ∙ odd-xor m (λ j. s j && columns j r) (λ j. t j && columns j r)
      ∙ ap₂ (λ (a b : Bool). a ⊻ b) (h r l) (k r l)
      ∙ xor_self (v r)

  last_column : (a b c x : Bool) → a ≡ true → b ≡ false → ((a ⊻ b) && c) ⊻ x ≡ false → x ≡ c
  last_column a b c x e f g = grind arith

  -- the last column in which two sets with one sum differ is a sum of earlier ones
  last_is_dependent : (s t v : Bits) → HasSum n m columns s v → HasSum n m columns t v →
      (d : ℕ) → d < m → s d ≡ true → t d ≡ false →
      ((k : ℕ) → k < m → d < k → s k ≡ t k) → IsDependent n columns d
  last_is_dependent s t v h k d l e f same = (
    λ j. s j ⊻ t j,
    λ r i.
        let term : Bits = λ j. (s j ⊻ t j) && columns j r in
        last_column (s d) (t d) (columns d r) (odd d term) e f
        (sym (odd-last d term)
        ∙ sym (odd-above m d term l (λ j p q. and_left (s j ⊻ t j) (columns j r)
        (ap (λ (b : Bool). b ⊻ t j) (same j q p) ∙ xor_self (t j))))
        ∙ sum_of_both s t v h k r i),
  )

  -- a set of columns none of which is a sum of earlier ones is the least with its sum
  pub least_solution : (s v : Bits) → HasSum n m columns s v →
      ((j : ℕ) → j < m → s j ≡ true → ¬ IsDependent n columns j) →
      IsLeast m (λ t. HasSum n m columns t v) s
  least_solution s v h free =
      least_by m (λ t. HasSum n m columns t v) s h
      (λ t k d l e f same. free d l e (last_is_dependent s t v h k d l e f same))

  -- a set of rows that meets the columns evenly meets each sum of them evenly
  pub even_with_sum : (y s v : Bits) → IsEven n m columns y → HasSum n m columns s v →
      odd n (λ r. y r && v r) ≡ false
  even_with_sum y s v h k =
      odd-same n (λ r. y r && v r) (λ r. odd m (λ j. y r && (s j && columns j r)))
      (λ r l. ap (λ (b : Bool). y r && b) (sym (k r l))
      ∙ sym (odd-and m (y r) (λ j. s j && columns j r)))
      ∙ odd-exchange n m (λ r j. y r && (s j && columns j r))
      ∙ odd-none m (λ j. odd n (λ r. y r && (s j && columns j r)))
      (λ j l.
      odd-same n (λ r. y r && (s j && columns j r)) (λ r. s j && (y r && columns j r))
      (λ r _. and_swap (y r) (s j) (columns j r))
      ∙ odd-and n (s j) (λ r. y r && columns j r)
      ∙ and_right (s j) (odd n (λ r. y r && columns j r)) (h j l))

  -- where a set refutes `u`, no set solves it
  pub refuted : (y s : Bits) (u : ℕ) → u < n → Refutes n m columns u y → Solves n m columns u s → ⊥
  refuted y s u l h k =
      clash (odd n (λ r. y r && single u r))
      (odd-one n (λ r. y r && single u r) u l
      (ap₂ (λ (a b : Bool). a && b) h.1 (single_itself u))
      (λ j _ ne. and_right (y j) (single u j) (single_other u j ne)))
      (even_with_sum y s (single u) h.0 k)

  -- ---- sets of rows

  -- `d` is the first row of a sum of columns
  pub record IsFirst (d : ℕ) : Type 0 where
    pub vector : Bits
    pub members : Bits
    pub sums : HasSum n m columns members vector
    pub has : vector d ≡ true
    pub first : (k : ℕ) → k < d → vector k ≡ false

  even_sum : (y z : Bits) → IsEven n m columns y → IsEven n m columns z →
      IsEven n m columns (λ r. y r ⊻ z r)
  even_sum y z h k j l =
      odd-same n (λ r. (y r ⊻ z r) && columns j r)
      (λ r. (y r && columns j r) ⊻ (z r && columns j r))
      (λ r _. xor_and (y r) (z r) (columns j r))
      ∙ odd-xor n (λ r. y r && columns j r) (λ r. z r && columns j r)
      ∙ ap₂ (λ (a b : Bool). a ⊻ b) (h j l) (k j l)

  -- an even set and a sum of columns do not meet in one row alone
  not_alone : (z v s : Bits) (d : ℕ) → d < n → IsEven n m columns z → HasSum n m columns s v →
      z d ≡ true → v d ≡ true → ((j : ℕ) → j < n → j ≢ d → z j && v j ≡ false) → ⊥
  not_alone z v s d l h k e f others =
      clash (odd n (λ r. z r && v r))
      (odd-one n (λ r. z r && v r) d l (ap₂ (λ (a b : Bool). a && b) e f) others)
      (even_with_sum z s v h k)

  -- the last row of an even set is the first row of no sum
  last_not_first : (z : Bits) (d : ℕ) → d < n → IsEven n m columns z → z d ≡ true →
      ((k : ℕ) → k < n → d < k → z k ≡ false) → IsFirst d → ⊥
  last_not_first z d l h e above p =
      not_alone z p.vector p.members d l h p.sums e p.has
      (λ j i ne. elim (two_sides d j ne) [
        | inl lt ↦ and_right (z j) (p.vector j) (p.first j lt)
        | inr gt ↦ and_left (z j) (p.vector j) (above j i gt)
      ])

  not_before_next : (t v : Bits) (u f j : ℕ) → j < n → ((k : ℕ) → k < u → v k ≡ false) →
      ((k : ℕ) → u < k → k < f → v k ≡ false) → t f ≡ false →
      ((k : ℕ) → k < n → f < k → t k ≡ false) → j ≢ u → t j && v j ≡ false
  not_before_next t v u f j l first between lacks above ne = elim (two_sides u j ne) [
    | inl lt ↦ and_right (t j) (v j) (first j lt)
    | inr gt ↦ elim (same_or_not j f) [
      | inl eq ↦ and_left (t j) (v j) (subst (λ (k : ℕ). t k ≡ false) (sym eq) lacks)
      | inr other ↦ elim (two_sides f j other) [
        | inl lt ↦ and_right (t j) (v j) (between j gt lt)
        | inr behind ↦ and_left (t j) (v j) (above j l behind)
      ]
    ]
  ]

  sum_has : (a b : Bool) → a ≡ true → b ≡ false → a ⊻ b ≡ true
  sum_has a b e f = grind arith

  -- an even set whose rows, but for `f`, are first rows is the least that holds `u`, if each other
  -- one that holds `u` has a row from `f` on
  pub least_even : (y : Bits) (u f : ℕ) → Refutes n m columns u y →
      ((t : Bits) → Refutes n m columns u t → t f ≡ false →
      ((k : ℕ) → k < n → f < k → y k ≡ t k) → ⊥) →
      ((d : ℕ) → d < n → y d ≡ true → d ≢ f → IsFirst d) → IsLeast n (Refutes n m columns u) y
  least_even y u f h from firsts =
      least_by n (Refutes n m columns u) y h
      (λ t k d l e lacks same. elim (same_or_not d f) [
        | inl eq ↦
            from t k (subst (λ (x : ℕ). t x ≡ false) eq lacks)
            (λ j i gt. same j i (subst (λ (x : ℕ). x < j) (sym eq) gt))
        | inr ne ↦
            last_not_first (λ r. y r ⊻ t r) d l (even_sum y t h.0 k.0) (sum_has (y d) (t d) e lacks)
            (λ j i gt. ap (λ (b : Bool). b ⊻ t j) (same j i gt) ∙ xor_self (t j))
            (firsts d l e ne)
      ])

  -- the same where `u` itself is `f`
  pub least_free : (y : Bits) (u : ℕ) → Refutes n m columns u y →
      ((d : ℕ) → d < n → y d ≡ true → d ≢ u → IsFirst d) → IsLeast n (Refutes n m columns u) y
  least_free y u h firsts = least_even y u u h (λ t k lacks _. clash (t u) k.1 lacks) firsts

  -- the same where `u` is the first row of a sum whose next row is `f`
  pub least_pivot : (y : Bits) (u f : ℕ) → u < n → Refutes n m columns u y → (p : IsFirst u) →
      ((k : ℕ) → u < k → k < f → p.vector k ≡ false) →
      ((k : ℕ) → k < n → f < k → y k ≡ false) →
      ((d : ℕ) → d < n → y d ≡ true → d ≢ f → IsFirst d) → IsLeast n (Refutes n m columns u) y
  least_pivot y u f l h p between above firsts =
      least_even y u f h
      (λ t k lacks same.
      not_alone t p.vector p.members u l k.0 p.sums k.1 p.has
      (λ j i ne. not_before_next t p.vector u f j i p.first between lacks
      (λ a b gt. sym (same a b gt) ∙ above a b gt) ne))
      firsts
