-- The sum over a set of numbers: the term of one of them.
use Rattle.std.proofs.Common.{◌≡◌, ℕ, zero, suc, ◌<◌, Bool, true, false, cond, ◌&&◌, not, ◌∙◌}
use Rattle.std.proofs.Common.{ap, ap₂, arith}
use Rattle.std.specs.Prelude.{nat_eq}
use Rattle.std.proofs.lemmas.Bool.{eq-eqb, ne_eqb, cases_eq}
use mathlib.Core.Logic.{inl, inr}
use Rattle.mc_model.specs.Bits.{◌⊻◌, Bits, replaced, odd}
use Rattle.mc_model.proofs.BitLemmas.{and_true, xor_false}
use Rattle.mc_model.proofs.OddSums.{and_false, odd-same, odd-none, odd-xor}

-- the term of one number alone
pub odd-pick : (n a : ℕ) (f : Bits) → a < n → odd n (λ k. f k && nat_eq k a) ≡ f a
unfolding odd
odd-pick zero a f l = absurd (omega arith)
odd-pick (suc n) a f l = elim (cases_eq n a) [
  | inl e ↦
      rw (eq-eqb n a e)
      (ap₂ (λ (b c : Bool). b ⊻ c) (and_true (f n)) (odd-none n (λ k. f k && nat_eq k a)
      (λ k h. let ne : k ≡ a → ⊥ = λ d. absurd (omega arith) in
      ap (λ (b : Bool). f k && b) (ne_eqb k a ne) ∙ and_false (f k)))
      ∙ xor_false (f n) ∙ ap f e)
  | inr ne ↦
      rw (ne_eqb n a ne)
      (ap (λ (b : Bool). b ⊻ odd n (λ k. f k && nat_eq k a)) (and_false (f n))
      ∙ odd-pick n a f (omega arith))
]

one_term : (p x c e : Bool) → p && cond e c x ≡ ((p && not e) && x) ⊻ ((p && c) && e)
one_term p x c true = grind arith
one_term p x c false = grind arith

-- the sum over a set at a setting with one bit replaced
pub odd-replaced : (n i : ℕ) (p x : Bits) (c : Bool) → i < n →
    odd n (λ k. p k && replaced x i c k)
    ≡ odd n (λ k. (p k && not (nat_eq k i)) && x k) ⊻ (p i && c)
odd-replaced n i p x c l =
    odd-same n (λ k. p k && replaced x i c k)
    (λ k. ((p k && not (nat_eq k i)) && x k) ⊻ ((p k && c) && nat_eq k i))
    (λ k h. one_term (p k) (x k) c (nat_eq k i))
    ∙ odd-xor n (λ k. (p k && not (nat_eq k i)) && x k) (λ k. (p k && c) && nat_eq k i)
    ∙ ap (λ (b : Bool). odd n (λ k. (p k && not (nat_eq k i)) && x k) ⊻ b)
    (odd-pick n i (λ k. p k && c) l)
