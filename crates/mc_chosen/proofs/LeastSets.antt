-- A property of sets that can be decided has a least set, or none.
use Rattle.std.proofs.Common.{◌≡◌, ◌⊎◌, ℕ, zero, suc, ◌<◌, ◌≤◌, Bool, true, false, ◌&&◌, nat_lt}
use Rattle.std.proofs.Common.{refl, sym, ◌∙◌, ap, arith, inl, inr, subst}
use Rattle.std.proofs.lemmas.Bool.{lt-ltb, le-ltb}
use Rattle.mc_model.specs.Bits.{Bits}
use Rattle.mc_model.specs.Choice.{SameBelow, IsLess}
use Rattle.mc_elim.specs.Systems.{IsLeast}
use Rattle.mc_least.proofs.LeastSets.{least_or_none as least_below}

-- it holds or it doesn't
abbrev pub Decided : Type 0 → Type 0
Decided P = P ⊎ (P → ⊥)

pub both_decided : {P Q : Type 0} → Decided P → Decided Q → Decided (P × Q)
both_decided (inl p) (inl q) = inl (p, q)
both_decided (inl p) (inr not_so) = inr (λ h. not_so h.1)
both_decided (inr not_so) q = inr (λ h. not_so h.0)

pub bits_decided : (a b : Bool) → Decided (a ≡ b)
bits_decided true true = inl refl
bits_decided true false = inr (λ e. cc e)
bits_decided false true = inr (λ e. cc e)
bits_decided false false = inl refl

-- what is decided of each number is decided of all below a bound
pub each_decided : (n : ℕ) (P : ℕ → Type 0) → ((k : ℕ) → Decided (P k)) →
    Decided ((k : ℕ) → k < n → P k)
each_decided zero P one = inl (λ k lt. absurd (omega arith))
each_decided (suc n) P one = with_last (each_decided n P one) (one n)
  where
    last_or : (k : ℕ) → k < suc n → (k < n) ⊎ (k ≡ n)
    last_or k lt = grind arith

    with_last : Decided ((k : ℕ) → k < n → P k) → Decided (P n) →
        Decided ((k : ℕ) → k < suc n → P k)
    with_last (inr not_so) here = inr (λ h. not_so (λ k lt. h k (omega arith)))
    with_last (inl all) (inr not_so) = inr (λ h. not_so (h n (omega arith)))
    with_last (inl all) (inl here) = inl (λ k lt. elim (last_or k lt) [
      | inl less ↦ all k less
      | inr e ↦ subst P (sym e) here
    ])

-- a least set stays least with the same numbers below the bound
pub least_too : (n : ℕ) (P : Bits → Type 0) (s t : Bits) → SameBelow n s t → (P s → P t) →
    IsLeast n P s → IsLeast n P t
least_too n P s t same has h = record { has = has h.has; least = λ u p. by u (h.least u p) }
  where
    by : (u : Bits) → SameBelow n s u ⊎ IsLess (λ d j. d < j) n s u →
        SameBelow n t u ⊎ IsLess (λ d j. d < j) n t u
    by u (inl all) = inl (λ k l. sym (same k l) ∙ all k l)
    by u (inr less) = inr (record {
      last = less.last;
      vertex = less.vertex;
      lacks = sym (same less.last less.vertex) ∙ less.lacks;
      holds = less.holds;
      same_after = λ k l after. sym (same k l) ∙ less.same_after k l after;
    })

-- the numbers of a set below a bound
abbrev cut_at : ℕ → Bits → Bits
cut_at m s = λ k. nat_lt k m && s k

-- the least set has no number from `m` on
pub least_or_none : (m : ℕ) (P : Bits → Type 0) → ((s : Bits) → Decided (P s)) →
    ((s t : Bits) → SameBelow m s t → P s → P t) →
    ((s : Bits) × IsLeast m P s × ((j : ℕ) → m ≤ j → s j ≡ false)) ⊎ ((t : Bits) → P t → ⊥)
least_or_none m P decide alike =
    elim (least_below m P (record { decided = decide; same = alike })) [
      | inl some ↦
          let same : SameBelow m some.0 (cut_at m some.0) = as_cut some.0 in
          inl (
            cut_at m some.0,
            least_too m P some.0 (cut_at m some.0) same (alike some.0 (cut_at m some.0) same)
                some.1,
            none_from some.0,
          )
      | inr none ↦ inr none
    ]
  where
    as_cut : (s : Bits) → SameBelow m s (cut_at m s)
    as_cut s k l = sym (ap (λ (b : Bool). b && s k) (lt-ltb k m l))

    none_from : (s : Bits) (j : ℕ) → m ≤ j → cut_at m s j ≡ false
    none_from s j le = ap (λ (b : Bool). b && s j) (le-ltb j m le)
