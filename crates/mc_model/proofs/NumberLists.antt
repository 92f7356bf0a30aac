-- The list of the numbers that pass a test, and how often lists have their members.
use Rattle.std.proofs.Common.{◌≡◌, ℕ, zero, suc, ◌+◌, ◌<◌, Bool, true, false, cond, ◌&&◌, ◌||◌}
use Rattle.std.proofs.Common.{List, [], ◌∷◌, ◌++◌, length, refl, sym, ◌∙◌, ap, ap₂, arith}
use Rattle.std.specs.Prelude.{nat_eq, nat_lt, filter, count_by}
use Rattle.std.proofs.lemmas.Bool.{eq-eqb, ne_eqb, lt-ltb, le-ltb, cases_order}
use Rattle.std.proofs.lemmas.List.Elements.{filter-append}
use Rattle.std.proofs.lemmas.List.Sums.{sum_by-append, sum_by-cons}
use mathlib.Core.Logic.{inl, inr}
use Rattle.mc_model.specs.Bits.{Bits}
use Rattle.mc_model.specs.Numbers.{numbers_from, numbers_where, is_member}

pub numbers_from-last : (q n : ℕ) → numbers_from q (suc n) ≡ numbers_from q n ++ ((q + n) ∷ [])
numbers_from-last q zero = let e : q ≡ q + 0 = omega arith in ap (λ (k : ℕ). k ∷ []) e
numbers_from-last q (suc n) =
    let e : suc q + n ≡ q + suc n = omega arith in
    ap (λ (ks : List ℕ). q ∷ ks) (numbers_from-last (suc q) n)
    ∙ ap (λ (k : ℕ). (q ∷ numbers_from (suc q) n) ++ (k ∷ [])) e

pub numbers_below-last : (n : ℕ) → numbers_from 0 (suc n) ≡ numbers_from 0 n ++ (n ∷ [])
numbers_below-last n =
    let e : 0 + n ≡ n = omega arith in
    numbers_from-last 0 n ∙ ap (λ (k : ℕ). numbers_from 0 n ++ (k ∷ [])) e

pub length-numbers_from : (q n : ℕ) → length (numbers_from q n) ≡ n
length-numbers_from q zero = refl
length-numbers_from q (suc n) = ap suc (length-numbers_from (suc q) n)

pub numbers_where-last : (p : Bits) (n : ℕ) →
    numbers_where p (suc n) ≡ numbers_where p n ++ cond (p n) (n ∷ []) []
numbers_where-last p n =
    ap (filter p) (numbers_below-last n) ∙ filter-append p (numbers_from 0 n) (n ∷ [])

pub numbers_where-same : (p q : Bits) (n : ℕ) → ((k : ℕ) → k < n → p k ≡ q k) →
    numbers_where p n ≡ numbers_where q n
numbers_where-same p q zero h = refl
numbers_where-same p q (suc n) h =
    numbers_where-last p n
    ∙ ap₂ (λ (ks : List ℕ) (b : Bool). ks ++ cond b (n ∷ []) [])
    (numbers_where-same p q n (λ k l. h k (omega arith))) (h n (omega arith))
    ∙ sym (numbers_where-last q n)

pub numbers_where-none : (p : Bits) (n : ℕ) → ((k : ℕ) → k < n → p k ≡ false) →
    numbers_where p n ≡ []
numbers_where-none p zero h = refl
numbers_where-none p (suc n) h =
    numbers_where-last p n
    ∙ ap₂ (λ (ks : List ℕ) (b : Bool). ks ++ cond b (n ∷ []) [])
    (numbers_where-none p n (λ k l. h k (omega arith))) (h n (omega arith))

-- ---- counts

pub count-first : (k q : ℕ) (qs : List ℕ) →
    count_by (nat_eq k) (q ∷ qs) ≡ cond (nat_eq k q) 1 0 + count_by (nat_eq k) qs
count-first k q qs = sum_by-cons (λ x. cond (nat_eq k x) 1 0) q qs

pub count-append : (k : ℕ) (xs ys : List ℕ) →
    count_by (nat_eq k) (xs ++ ys) ≡ count_by (nat_eq k) xs + count_by (nat_eq k) ys
count-append k xs ys = sum_by-append (λ x. cond (nat_eq k x) 1 0) xs ys

count-last : (q n : ℕ) (b : Bool) →
    count_by (nat_eq q) (cond b (n ∷ []) []) ≡ cond (b && nat_eq q n) 1 0
count-last q n false = refl
count-last q n true = let e : 0 + cond (nat_eq q n) 1 0 ≡ cond (nat_eq q n) 1 0 = omega arith in e

-- each number that passes the test is listed once
pub count-where : (p : Bits) (n q : ℕ) →
    count_by (nat_eq q) (numbers_where p n) ≡ cond (nat_lt q n && p q) 1 0
count-where p zero q = sym (ap (λ (b : Bool). cond (b && p q) 1 0) (le-ltb q 0 (omega arith)))
count-where p (suc n) q =
    ap (count_by (nat_eq q)) (numbers_where-last p n)
    ∙ count-append q (numbers_where p n) (cond (p n) (n ∷ []) [])
    ∙ ap₂ (λ (a b : ℕ). a + b) (count-where p n q) (count-last q n (p n))
    ∙ elim (cases_order q n) [
      | inl e ↦
          rw (e, eq-eqb n n refl, le-ltb n n (omega arith), lt-ltb n (suc n) (omega arith))
          (last (p n))
      | inr other ↦ elim other [
        | inl lt ↦
            rw (
              lt-ltb q n lt,
              lt-ltb q (suc n) (omega arith),
              ne_eqb q n (λ e. absurd (omega arith)),
            )
            (before (p q) (p n))
        | inr gt ↦
            rw (
              le-ltb q n (omega arith),
              le-ltb q (suc n) (omega arith),
              ne_eqb q n (λ e. absurd (omega arith)),
            )
            (none (p n))
      ]
    ]
  where
    last : (b : Bool) → 0 + cond (b && true) 1 0 ≡ cond b 1 0
    last true = refl
    last false = refl

    no_more : (a : Bool) → cond a 1 0 + 0 ≡ cond a 1 0
    no_more a = omega arith

    before : (a b : Bool) → cond a 1 0 + cond (b && false) 1 0 ≡ cond a 1 0
    before a true = no_more a
    before a false = no_more a

    none : (b : Bool) → 0 + cond (b && false) 1 0 ≡ 0
    none true = refl
    none false = refl

-- ---- members and counts

some_more : (a b : Bool) (n : ℕ) → b ≡ nat_lt 0 n → (a || b) ≡ nat_lt 0 (cond a 1 0 + n)
some_more true b n e = sym (lt-ltb 0 (1 + n) (omega arith))
some_more false b n e = let f : n ≡ 0 + n = omega arith in e ∙ ap (nat_lt 0) f

member_counts : (qs : List ℕ) (k : ℕ) → is_member qs k ≡ nat_lt 0 (count_by (nat_eq k) qs)
member_counts [] k = refl
member_counts (q ∷ qs) k =
    some_more (nat_eq k q) (is_member qs k) (count_by (nat_eq k) qs) (member_counts qs k)
    ∙ ap (nat_lt 0) (sym (count-first k q qs))

pub member_once : (qs : List ℕ) (k : ℕ) (b : Bool) → count_by (nat_eq k) qs ≡ cond b 1 0 →
    is_member qs k ≡ b
member_once qs k b e = member_counts qs k ∙ ap (nat_lt 0) e ∙ one_or_none b
  where
    one_or_none : (b : Bool) → nat_lt 0 (cond b 1 0) ≡ b
    one_or_none true = refl
    one_or_none false = refl
