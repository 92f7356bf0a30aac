-- Two lists of commands are equal, or they are not.
use Rattle.std.proofs.Common.{◌≡◌, ◌⊎◌, ℕ, Bool, true, false, List, [], ◌∷◌, refl, ap, ap₂}
use Rattle.std.proofs.lemmas.Bool.{cases_eq}
use mathlib.Core.Logic.{inl, inr}
use Rattle.mc_model.specs.Signals.{Signal}
use Rattle.mc_model.specs.Pattern.{Command, Prep, Ent, Meas, FixX, FixZ}

abbrev pub IsOrNot : Type 0 → Type 0
IsOrNot P = P ⊎ (P → ⊥)

pub both : {P Q R : Type 0} → IsOrNot P → IsOrNot Q → (P → Q → R) → (R → P × Q) → IsOrNot R
both (inl p) (inl q) f g = inl (f p q)
both (inr n) b f g = inr (λ r. n (g r).0)
both (inl p) (inr n) f g = inr (λ r. n (g r).1)

lists_equal : {X : Type 0} → ((x y : X) → IsOrNot (x ≡ y)) → (xs ys : List X) →
    IsOrNot (xs ≡ ys)
lists_equal same [] [] = inl refl
lists_equal same [] (y ∷ ys) = inr (λ e. absurd (cc e))
lists_equal same (x ∷ xs) [] = inr (λ e. absurd (cc e))
lists_equal same (x ∷ xs) (y ∷ ys) = both (same x y) (lists_equal same xs ys)
    (λ e f. ap₂ (λ (z : _) (zs : List _). z ∷ zs) e f) (λ g. (cc g, cc g))

pub bits_equal : (a b : Bool) → IsOrNot (a ≡ b)
bits_equal true true = inl refl
bits_equal false false = inl refl
bits_equal true false = inr (λ e. absurd (cc e))
bits_equal false true = inr (λ e. absurd (cc e))

signals_equal : (s t : Signal) → IsOrNot (s ≡ t)
signals_equal s t = both (lists_equal cases_eq s.members t.members)
    (bits_equal s.constant t.constant)
    (λ e f. ap₂ (λ (qs : List ℕ) (b : Bool). record { members = qs; constant = b }) e f)
    (λ g. (ap (λ (u : Signal). u.members) g, ap (λ (u : Signal). u.constant) g))

commands_equal : (c d : Command) → IsOrNot (c ≡ d)
commands_equal (Prep q) (Prep r) = elim (cases_eq q r) [
  | inl e ↦ inl (ap Prep e)
  | inr n ↦ inr (λ g. n (cc g))
]
commands_equal (Ent i j) (Ent q r) =
    both (cases_eq i q) (cases_eq j r) (λ e f. ap₂ Ent e f) (λ g. (cc g, cc g))
commands_equal (Meas q a s t) (Meas r b u v) =
    both
    (both (cases_eq q r) (cases_eq a b) (λ e f. (e, f)) (λ g. g))
    (both (signals_equal s u) (signals_equal t v) (λ e f. (e, f)) (λ g. g))
    (λ e f. rw (e.0, e.1, f.0, f.1) refl) (λ g. ((cc g, cc g), (cc g, cc g)))
commands_equal (FixX q s) (FixX r t) =
    both (cases_eq q r) (signals_equal s t) (λ e f. ap₂ FixX e f) (λ g. (cc g, cc g))
commands_equal (FixZ q s) (FixZ r t) =
    both (cases_eq q r) (signals_equal s t) (λ e f. ap₂ FixZ e f) (λ g. (cc g, cc g))
commands_equal c d = inr (λ e. absurd (cc e))

pub all_equal : (cs ds : List Command) → IsOrNot (cs ≡ ds)
all_equal cs ds = lists_equal commands_equal cs ds
