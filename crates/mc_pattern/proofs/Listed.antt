-- A list that has each number once of those that pass a test is as long as there are such numbers.
use Rattle.std.proofs.Common.{◌≡◌, ℕ, zero, suc, ◌+◌, ◌<◌, ◌≤◌, Bool, true, false, cond, not, List}
use Rattle.std.proofs.Common.{[], ◌∷◌, refl, sym, ◌∙◌, arith, length}
use Rattle.std.specs.Prelude.{nat_eq, count_by, sum_by, All}
use Rattle.std.proofs.lemmas.Bool.{eq-eqb, ne_eqb, cases_eq}
use Rattle.std.proofs.lemmas.List.Sums.{sum_by-cons}
use Rattle.std.proofs.lemmas.List.Elements.{All-head, All-tail}
use mathlib.Core.Logic.{inl, inr}
use Rattle.mc_model.specs.Numbers.{numbers_from, ListsOnce}

-- sums over `n` numbers from `from` on
sum_same : (f g : ℕ → ℕ) (from n : ℕ) → ((k : ℕ) → from ≤ k → k < from + n → f k ≡ g k) →
    sum_by f (numbers_from from n) ≡ sum_by g (numbers_from from n)
sum_same f g from zero same = refl
sum_same f g from (suc n) same =
    let left = sum_by-cons f from (numbers_from (suc from) n) in
    let right = sum_by-cons g from (numbers_from (suc from) n) in
    let first = same from (omega arith) (omega arith) in
    let rest = sum_same f g (suc from) n (λ k above below. same k (omega arith) (omega arith)) in
    omega arith

sum_none : (from n : ℕ) → sum_by (λ k. 0) (numbers_from from n) ≡ 0
sum_none from zero = refl
sum_none from (suc n) =
    let step = sum_by-cons (λ k. 0) from (numbers_from (suc from) n) in
    let rest = sum_none (suc from) n in
    omega arith

sum_ones : (from n : ℕ) → sum_by (λ k. 1) (numbers_from from n) ≡ n
sum_ones from zero = refl
sum_ones from (suc n) =
    let step = sum_by-cons (λ k. 1) from (numbers_from (suc from) n) in
    let rest = sum_ones (suc from) n in
    omega arith

sum_both : (f g : ℕ → ℕ) (from n : ℕ) →
    sum_by (λ k. f k + g k) (numbers_from from n)
    ≡ sum_by f (numbers_from from n) + sum_by g (numbers_from from n)
sum_both f g from zero = refl
sum_both f g from (suc n) =
    let left = sum_by-cons f from (numbers_from (suc from) n) in
    let right = sum_by-cons g from (numbers_from (suc from) n) in
    let both = sum_by-cons (λ k. f k + g k) from (numbers_from (suc from) n) in
    let rest = sum_both f g (suc from) n in
    omega arith

-- one of the numbers is `x`
one_is : (x from n : ℕ) → from ≤ x → x < from + n →
    sum_by (λ k. cond (nat_eq k x) 1 0) (numbers_from from n) ≡ 1
one_is x from zero above below = absurd (omega arith)
one_is x from (suc n) above below =
    let step = sum_by-cons (λ k. cond (nat_eq k x) 1 0) from (numbers_from (suc from) n) in
    elim (cases_eq from x) [
      | inl e ↦
          let first : cond {A = ℕ} (nat_eq from x) 1 0 ≡ 1 = rw (eq-eqb from x e) refl in
          let none : (k : ℕ) → suc from ≤ k → k < suc from + n → cond {A = ℕ} (nat_eq k x) 1 0 ≡ 0 =
          λ k a b. rw (ne_eqb k x (λ s. absurd (omega arith))) refl in
          let rest = sum_same (λ k. cond (nat_eq k x) 1 0) (λ k. 0) (suc from) n none in
          let zeros = sum_none (suc from) n in
          omega arith
      | inr ne ↦
          let first : cond {A = ℕ} (nat_eq from x) 1 0 ≡ 0 = rw (ne_eqb from x ne) refl in
          let rest = one_is x (suc from) n (omega arith) (omega arith) in
          omega arith
    ]

-- the counts of all numbers add up to the length
counts_add_up : (n : ℕ) (qs : List ℕ) → All (λ q. q < n) qs →
    sum_by (λ k. count_by (nat_eq k) qs) (numbers_from 0 n) ≡ length qs
counts_add_up n [] below = sum_none 0 n
counts_add_up n (q ∷ qs) below =
    let lt : q < n = All-head (λ p. p < n) q qs below in
    let step : (k : ℕ) → 0 ≤ k → k < 0 + n →
    count_by (nat_eq k) (q ∷ qs) ≡ cond (nat_eq k q) 1 0 + count_by (nat_eq k) qs =
    λ k a b. sum_by-cons (λ x. cond (nat_eq k x) 1 0) q qs in
    let steps =
    sum_same (λ k. count_by (nat_eq k) (q ∷ qs))
    (λ k. cond (nat_eq k q) 1 0 + count_by (nat_eq k) qs) 0 n step in
    let both = sum_both (λ k. cond (nat_eq k q) 1 0) (λ k. count_by (nat_eq k) qs) 0 n in
    let first = one_is q 0 n (omega arith) (omega arith) in
    let rest = counts_add_up n qs (All-tail (λ p. p < n) q qs below) in
    omega arith

pub length-listed : (n : ℕ) (p : ℕ → Bool) (qs : List ℕ) → ListsOnce n p qs →
    length qs ≡ count_by p (numbers_from 0 n)
length-listed n p qs h =
    let sums = counts_add_up n qs h.below in
    let same =
    sum_same (λ k. count_by (nat_eq k) qs) (λ k. cond (p k) 1 0) 0 n
    (λ k a b. h.once k (omega arith)) in
    sym sums ∙ same

one_of : (b : Bool) → cond (not b) 1 0 + cond b 1 0 ≡ 1
one_of true = refl
one_of false = refl

-- each number passes a test or its contrary
pub count_either : (n : ℕ) (p : ℕ → Bool) →
    count_by (λ k. not (p k)) (numbers_from 0 n) + count_by p (numbers_from 0 n) ≡ n
count_either n p =
    sym (sum_both (λ k. cond (not (p k)) 1 0) (λ k. cond (p k) 1 0) 0 n)
    ∙ sum_same (λ k. cond (not (p k)) 1 0 + cond (p k) 1 0) (λ k. 1) 0 n (λ k a b. one_of (p k))
    ∙ sum_ones 0 n
