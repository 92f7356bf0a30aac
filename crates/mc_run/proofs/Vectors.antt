-- Vectors that grow by an entry, and entries of a vector's values.
use Rattle.std.proofs.Common.{◌≡◌, ℕ, zero, suc, ◌<◌, ℤ, List, [], ◌∷◌, ◌++◌, length, refl, sym, ap}
use Rattle.std.proofs.Common.{arith, subst}
use Rattle.std.proofs.lemmas.Bool.{cases_eq}
use mathlib.Core.Logic.{inl, inr}
use Rattle.mc_run.specs.Exact.{Exact}
use Rattle.mc_run.specs.Sources.{entry, taken, source, IsStepped}
use Rattle.mc_run.specs.declared.step.Step.{Step}

entry-last : (ys : List (List ℤ)) (a : List ℤ) → entry (ys ++ a ∷ []) (length ys) ≡ a
entry-last [] a = refl
entry-last (y ∷ ys) a = entry-last ys a

entry-before : (ys : List (List ℤ)) (a : List ℤ) (i : ℕ) → i < length ys →
    entry (ys ++ a ∷ []) i ≡ entry ys i
entry-before [] a i h = absurd (omega arith)
entry-before (y ∷ ys) a zero h = refl
entry-before (y ∷ ys) a (suc i) h = entry-before ys a i (omega arith)

pub length-more : {A : Type 0} (ys : List A) (a : A) → length (ys ++ a ∷ []) ≡ suc (length ys)
length-more [] a = refl
length-more (y ∷ ys) a = ap suc (length-more ys a)

-- what holds of every entry and of one more
pub entry_more : (P : ℕ → List ℤ → Type 0) (ys : List (List ℤ)) (a : List ℤ) →
    ((i : ℕ) → i < length ys → P i (entry ys i)) → P (length ys) a →
    (i : ℕ) → i < length (ys ++ a ∷ []) → P i (entry (ys ++ a ∷ []) i)
entry_more P ys a all one i h = elim (cases_eq i (length ys)) [
  | inl e ↦
      subst (λ j. P j (entry (ys ++ a ∷ []) j)) (sym e)
      (subst (P (length ys)) (sym (entry-last ys a)) one)
  | inr ne ↦
      let l : i < length ys = omega (arith, length-more ys a) in
      subst (P i) (sym (entry-before ys a i l)) (all i l)
]

pub stepped_more : (ring : Exact) (Is : List ℤ → Type 0) (step : Step)
    (v ys : List (List ℤ)) (a : List ℤ) → IsStepped ring Is step v ys →
    a ≡ taken ring v (source ring.half step (length ys)) → Is a →
    IsStepped ring Is step v (ys ++ a ∷ [])
stepped_more ring Is step v ys a stepped e is = record {
  same = entry_more (λ i b. b ≡ taken ring v (source ring.half step i)) ys a stepped.same e;
  element = entry_more (λ i b. Is b) ys a stepped.element is;
}
