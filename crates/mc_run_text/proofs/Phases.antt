-- The least phase is found, and there is one least.
use Rattle.std.proofs.Common.{◌≡◌, ℕ, zero, suc, ◌+◌, ◌*◌, ◌<◌, ◌≤◌, Bool, true, false, ◌&&◌}
use Rattle.std.proofs.Common.{List}
use Rattle.std.proofs.Common.{[], ◌∷◌, map, refl, sym, ap, ap₂, ◌∙◌, inl, inr, ℤ, arith}
use Rattle.std.specs.Prelude.{Option, None, Some, MatchOption, find}
use Rattle.std.specs.Cmp.Lexicographic.{pointwise}
use Rattle.std.specs.Cmp.Rules.{signed_items}
use Rattle.std.specs.Ordering.{int_eq}
use Rattle.std.proofs.lemmas.Bool.{cases_Bool, cases_lt, true≢false}
use Rattle.mc_model.specs.Numbers.{numbers_from}
use Rattle.mc_model.specs.Ring.{rotations}
use Rattle.mc_cyclo.specs.Phase.{IsPhase, IsLeastPhase}
use Rattle.mc_run_text.specs.Runs.{is_phase, least_phase}

-- ---- the test decides whether two lists are one

both : (a b : Bool) → (a && b) ≡ true → (a ≡ true) × (b ≡ true)
both true b e = (refl, e)
both false b e = absurd (true≢false (sym e))

items_one : (a b : List (List ℤ)) → pointwise (pointwise int_eq) a b ≡ true → a ≡ b
items_one [] [] e = refl
items_one [] (y ∷ b) e = absurd (true≢false (sym e))
items_one (x ∷ a) [] e = absurd (true≢false (sym e))
items_one (x ∷ a) (y ∷ b) e =
    let parts = both (pointwise int_eq x y) (pointwise (pointwise int_eq) a b) e in
    ap₂ (λ z zs. z ∷ zs) ((signed_items x y).0 parts.0) (items_one a b parts.1)

items_self : (a : List (List ℤ)) → pointwise (pointwise int_eq) a a ≡ true
items_self [] = refl
items_self (x ∷ a) = ap₂ (λ p q. p && q) ((signed_items x x).1 refl) (items_self a)

phase_of : (a b : List (List ℤ)) (k : ℕ) → is_phase a b k ≡ true → IsPhase a b k
phase_of a b k e = items_one a (map (rotations k) b) e

no_phase : (a b : List (List ℤ)) (k : ℕ) → is_phase a b k ≡ false → IsPhase a b k → ⊥
no_phase a b k e same =
    true≢false (sym (ap (pointwise (pointwise int_eq) a) (sym same) ∙ items_self a) ∙ e)

-- ---- the first number that passes a test

abbrev IsFirst : (ℕ → Bool) → ℕ → ℕ → Option ℕ → Type 0
IsFirst p q n first =
    MatchOption first ((k : ℕ) → q ≤ k → k < q + n → p k ≡ false)
    (λ k. (k < q + n) × (p k ≡ true) × ((j : ℕ) → q ≤ j → j < k → p j ≡ false))

later : (p : ℕ → Bool) (q n : ℕ) (first : Option ℕ) → p q ≡ false → IsFirst p (suc q) n first →
    IsFirst p q (suc n) first
later p q n None e is = λ k l h. elim (cases_lt q k) [
  | inl m ↦ is k (omega arith) (omega arith)
  | inr m ↦ let same : k ≡ q = omega arith in ap p same ∙ e
]
later p q n (Some k) e is = (
  (let h = is.0 in omega arith),
  is.1,
  λ j l h. elim (cases_lt q j) [
    | inl m ↦ is.2 j (omega arith) (omega arith)
    | inr m ↦ let same : j ≡ q = omega arith in ap p same ∙ e
  ],
)

first_from : (p : ℕ → Bool) (q n : ℕ) → IsFirst p q n (find p (numbers_from q n))
first_from p q zero = λ k l h. absurd (omega arith)
first_from p q (suc n) = elim (cases_Bool (p q)) [
  | inl e ↦ rw e (omega arith, e, λ j l h. absurd (omega arith))
  | inr e ↦ rw e (later p q n (find p (numbers_from (suc q) n)) e (first_from p (suc q) n))
]

-- ---- phases

as_phase : (half : ℕ) (a b : List (List ℤ)) (phase : Option ℕ) →
    IsFirst (is_phase a b) 0 (2 * half) phase → IsLeastPhase half a b phase
as_phase half a b None is = λ k h. no_phase a b k (is k (omega arith) (omega arith))
as_phase half a b (Some k) is = (
  (let h = is.0 in omega arith),
  phase_of a b k is.1,
  λ j h. no_phase a b j (is.2 j (omega arith) h),
)

pub least_is : (half : ℕ) (a b : List (List ℤ)) → IsLeastPhase half a b (least_phase half a b)
least_is half a b =
    as_phase half a b (least_phase half a b) (first_from (is_phase a b) 0 (2 * half))

-- there is one least phase, or none
pub one_least : (half : ℕ) (a b : List (List ℤ)) (p r : Option ℕ) → IsLeastPhase half a b p →
    IsLeastPhase half a b r → p ≡ r
one_least half a b None None is it = refl
one_least half a b None (Some k) is it = absurd (is k it.0 it.1)
one_least half a b (Some k) None is it = absurd (it k is.0 is.1)
one_least half a b (Some k) (Some j) is it = elim (cases_lt k j) [
  | inl l ↦ absurd (it.2 k l is.1)
  | inr l ↦ elim (cases_lt j k) [
    | inl m ↦ absurd (is.2 j m it.1)
    | inr m ↦ let e : k ≡ j = omega arith in ap (λ n. Some n) e
  ]
]
