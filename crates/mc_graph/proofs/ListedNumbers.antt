-- The list of the numbers that pass a test: it rises, and has those that pass.
use Rattle.std.proofs.Common.{◌≡◌, ℕ, zero, suc, ◌+◌, ◌<◌, Bool, true, cond, ◌&&◌, [], ◌∷◌, ◌++◌}
use Rattle.std.proofs.Common.{◌∙◌, ap, ap₂, arith}
use Rattle.std.specs.Prelude.{nat_lt, filter, All}
use Rattle.std.proofs.lemmas.Bool.{cases_Bool, lt-ltb}
use Rattle.std.proofs.lemmas.List.Elements.{All-nil, All-cons, All-filter, All-weaker}
use mathlib.Core.Logic.{inl, inr}
use Rattle.mc_model.specs.Bits.{Bits}
use Rattle.mc_model.specs.Numbers.{numbers_from, numbers_where, is_member}
use Rattle.mc_model.specs.Signals.{AllAbove, IsRising}
use Rattle.mc_model.proofs.NumberLists.{count-where, member_once, numbers_where-last}

where_above : (p : Bits) (r q n : ℕ) → r < q → AllAbove r (filter p (numbers_from q n))
where_above p r q zero l = tt
where_above p r q (suc n) l =
    let rest = where_above p r (suc q) n (omega arith) in
    elim (cases_Bool (p q)) [
      | inl e ↦ rw e (l, rest)
      | inr e ↦ rw e rest
    ]

where_rises : (p : Bits) (q n : ℕ) → IsRising (filter p (numbers_from q n))
where_rises p q zero = tt
where_rises p q (suc n) =
    let rest = where_rises p (suc q) n in
    elim (cases_Bool (p q)) [
      | inl e ↦ rw e (where_above p q (suc q) n (omega arith), rest)
      | inr e ↦ rw e rest
    ]

pub numbers_where-rise : (p : Bits) (n : ℕ) → IsRising (numbers_where p n)
numbers_where-rise p n = where_rises p 0 n

numbers_within : (q n : ℕ) → All (λ k. k < q + n) (numbers_from q n)
numbers_within q zero = All-nil (λ k. k < q + 0)
numbers_within q (suc n) =
    All-cons (λ k. k < q + suc n) q (numbers_from (suc q) n) (omega arith)
    (All-weaker (λ k. k < suc q + n) (λ k. k < q + suc n) (λ k l. omega arith)
    (numbers_from (suc q) n) (numbers_within (suc q) n))

pub numbers_where-below : (p : Bits) (n : ℕ) → All (λ k. k < n) (numbers_where p n)
numbers_where-below p n = All-filter p (λ k. k < n) (numbers_from 0 n)
    (All-weaker (λ k. k < 0 + n) (λ k. k < n) (λ k l. omega arith)
    (numbers_from 0 n) (numbers_within 0 n))

pub member-where : (p : Bits) (n k : ℕ) → is_member (numbers_where p n) k ≡ nat_lt k n && p k
member-where p n k = member_once (numbers_where p n) k (nat_lt k n && p k) (count-where p n k)

pub member-where-true : (p : Bits) (n k : ℕ) → k < n → p k ≡ true →
    is_member (numbers_where p n) k ≡ true
member-where-true p n k l e =
    member-where p n k ∙ ap₂ (λ (a b : Bool). a && b) (lt-ltb k n l) e

-- one more number
pub where_more : (p : Bits) (n : ℕ) →
    numbers_where p (n + 1) ≡ numbers_where p n ++ cond (p n) (n ∷ []) []
where_more p n =
    let e : n + 1 ≡ suc n = omega arith in
    ap (numbers_where p) e ∙ numbers_where-last p n
