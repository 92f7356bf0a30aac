-- Sets of numbers as rising lists.
use Rattle.std.specs.Prelude.{Option, Some, slice_get, length, unwrap_or}
use Rattle.std.proofs.Common.{◌≡◌, ℕ, zero, suc, ◌+◌, ◌<◌, Bool, true, false, ◌&&◌, ◌||◌, List, []}
use Rattle.std.proofs.Common.{◌∷◌, refl, sym, ap, ap₂, ◌∙◌, arith, subst}
use Rattle.std.proofs.Common.{nat_eq, nat_lt, nat_le}
use Rattle.std.specs.List.{filter}
use Rattle.std.proofs.lemmas.Bool.{eq-eqb, ne_eqb, cases_Bool, cases_order, false≢true}
use Rattle.std.proofs.lemmas.Bool.Decides.{nat_tests}
use mathlib.Core.Logic.{inl, inr}
use Rattle.mc_model.specs.Bits.{◌⊻◌, Bits}
use Rattle.mc_model.specs.Numbers.{numbers_from, numbers_where, is_member}
use Rattle.mc_model.specs.Signals.{AllAbove, IsRising}
use Rattle.mc_signal.proofs.Members.{is_member-above, is_member-first}
use Rattle.mc_signal.proofs.Rising.{AllAbove-lower}

-- the numbers from `q` on that pass a test
above_from : (p : Bits) (r q n : ℕ) → r < q → AllAbove r (filter p (numbers_from q n))
above_from p r q zero lt = tt
above_from p r q (suc n) lt = elim (cases_Bool (p q)) [
  | inl e ↦ rw e (lt, above_from p r (suc q) n (omega arith))
  | inr e ↦ rw e (above_from p r (suc q) n (omega arith))
]

rising_from : (p : Bits) (q n : ℕ) → IsRising (filter p (numbers_from q n))
rising_from p q zero = tt
rising_from p q (suc n) = elim (cases_Bool (p q)) [
  | inl e ↦ rw e (above_from p q (suc q) n (omega arith), rising_from p (suc q) n)
  | inr e ↦ rw e (rising_from p (suc q) n)
]

pub rising_where : (p : Bits) (n : ℕ) → IsRising (numbers_where p n)
rising_where p n = rising_from p 0 n

none_of : (p : Bool) (k q : ℕ) → (p && (nat_le q k && nat_lt k (q + 0))) ≡ false
none_of p k q = grind (arith, nat_tests)

member_step : (p t : Bool) (k q n : ℕ) → (k ≡ q → t ≡ p)
    → (nat_eq k q && t || p && (nat_le (suc q) k && nat_lt k (suc q + n)))
    ≡ (p && (nat_le q k && nat_lt k (q + suc n)))
member_step p t k q n same = grind (arith, nat_tests)

member_from : (p : Bits) (q n k : ℕ)
    → is_member (filter p (numbers_from q n)) k ≡ (p k && (nat_le q k && nat_lt k (q + n)))
member_from p q zero k = sym (none_of (p k) k q)
member_from p q (suc n) k =
    first (member_from p (suc q) n k) (p q) refl ∙ member_step (p k) (p q) k q n (λ e. ap p (sym e))
  where
    and_true : (b : Bool) → b ≡ (b && true)
    and_true b = grind arith

    and_false : (b c : Bool) → c ≡ (b && false || c)
    and_false b c = grind arith

    first : is_member (filter p (numbers_from (suc q) n)) k
        ≡ (p k && (nat_le (suc q) k && nat_lt k (suc q + n)))
        → (t : Bool) → p q ≡ t → is_member (filter p (numbers_from q (suc n))) k
        ≡ (nat_eq k q && p q || p k && (nat_le (suc q) k && nat_lt k (suc q + n)))
    first rest true e =
        rw (e, rest)
        (ap (λ (b : Bool). b || (p k && (nat_le (suc q) k && nat_lt k (suc q + n))))
        (and_true (nat_eq k q)))
    first rest false e =
        rw (e, rest) (and_false (nat_eq k q) (p k && (nat_le (suc q) k && nat_lt k (suc q + n))))

below_all : (b : Bool) (n k : ℕ) → (b && (nat_le 0 k && nat_lt k (0 + n))) ≡ (b && nat_lt k n)
below_all b n k = grind (arith, nat_tests)

pub member_where : (p : Bits) (n k : ℕ) → is_member (numbers_where p n) k ≡ (p k && nat_lt k n)
member_where p n k = member_from p 0 n k ∙ below_all (p k) n k

-- a rising list is determined by its members
one_of : (q : ℕ) (qs : List ℕ) → is_member (q ∷ qs) q ≡ true
one_of q qs = rw (eq-eqb q q refl) refl

cancelled : (e a b : Bool) → (e ⊻ a) ≡ (e ⊻ b) → a ≡ b
cancelled e a b same = grind arith

tail_same : (q : ℕ) (ps qs : List ℕ) (k : ℕ) → AllAbove q ps → AllAbove q qs
    → is_member (q ∷ ps) k ≡ is_member (q ∷ qs) k → is_member ps k ≡ is_member qs k
tail_same q ps qs k left right same =
    cancelled (nat_eq k q) (is_member ps k) (is_member qs k)
    (sym (is_member-first q k ps left) ∙ same ∙ is_member-first q k qs right)

pub same_members : (ps qs : List ℕ) → IsRising ps → IsRising qs
    → ((k : ℕ) → is_member ps k ≡ is_member qs k) → ps ≡ qs
same_members [] [] left right same = refl
same_members [] (q ∷ qs) left right same = absurd (false≢true (same q ∙ one_of q qs))
same_members (p ∷ ps) [] left right same = absurd (false≢true (sym (same p) ∙ one_of p ps))
same_members (p ∷ ps) (q ∷ qs) left right same = elim (cases_order p q) [
  | inl e ↦
      let same' = λ (k : ℕ). ap (λ (r : ℕ). is_member (r ∷ ps) k) (sym e) ∙ same k in
      let above : AllAbove q ps = rw e at left.0 in
      ap₂ (λ (r : ℕ) (rs : List ℕ). r ∷ rs) e
      (same_members ps qs left.1 right.1 (λ k. tail_same q ps qs k above right.0 (same' k)))
  | inr other ↦ elim other [
    | inl lt ↦ absurd
        (false≢true (sym (is_member-above p (q ∷ qs) (lt, AllAbove-lower p q qs lt right.0))
        ∙ sym (same p) ∙ one_of p ps))
    | inr gt ↦ absurd
        (false≢true (sym (is_member-above q (p ∷ ps) (gt, AllAbove-lower q p ps gt left.0))
        ∙ same q ∙ one_of q qs))
  ]
]

-- a rising list whose members pass a test, all of them below a bound
whole_where : (b t : Bool) → (b ≡ true → t ≡ true) → b ≡ (b && t)
whole_where b t below = grind arith

pub set_where : (set : List ℕ) (p : ℕ → Bool) (n : ℕ) → IsRising set
    → ((k : ℕ) → is_member set k ≡ p k) → ((k : ℕ) → p k ≡ true → k < n)
    → set ≡ numbers_where p n
set_where set p n rising same below =
    same_members set (numbers_where p n) rising (rising_where p n) (λ k.
    same k ∙ whole_where (p k) (nat_lt k n) (λ e. lt_test k (below k e)) ∙ sym (member_where p n k))
  where
    lt_test : (k : ℕ) → k < n → nat_lt k n ≡ true
    lt_test k lt = grind (arith, nat_tests)

pub where_members : (qs : List ℕ) (n : ℕ) → IsRising qs
    → ((k : ℕ) → is_member qs k ≡ true → k < n) → numbers_where (is_member qs) n ≡ qs
where_members qs n rising below =
    sym (set_where qs (is_member qs) n rising (λ k. refl) below)

above_all : (ps : List ℕ) (p i m : ℕ) → AllAbove p ps → slice_get ps i ≡ Some m → p < m
above_all [] p i m above at = cc
above_all (q ∷ qs) p zero m above at = subst (λ (n : ℕ). p < n) (ap (λ (o : Option ℕ). unwrap_or o 0) at) above.0
above_all (q ∷ qs) p (suc i) m above at = above_all qs p i m above.1 at

-- a number above the last member is none
pub above_last : (ps : List ℕ) (i m q : ℕ) → IsRising ps → length ps ≡ suc i →
    slice_get ps i ≡ Some m → m < q → is_member ps q ≡ false
above_last [] i m q rise long at lt = refl
above_last (p ∷ []) zero m q rise long at lt =
    ap (λ (b : Bool). b || false)
    (ne_eqb q p (λ e. absurd (let same : p ≡ m = ap (λ (o : Option ℕ). unwrap_or o 0) at in omega arith)))
above_last (p ∷ []) (suc i) m q rise long at lt = absurd (omega arith)
above_last (p ∷ (r ∷ rs)) zero m q rise long at lt = absurd (omega arith)
above_last (p ∷ (r ∷ rs)) (suc i) m q rise long at lt =
    let below : p < m = above_all (r ∷ rs) p i m rise.0 at in
    ap₂ (λ (a b : Bool). a || b) (ne_eqb q p (λ e. absurd (omega arith)))
    (above_last (r ∷ rs) i m q rise.1 (omega arith) at lt)

pub empty_lacks : (ps : List ℕ) (q : ℕ) → length ps ≡ 0 → is_member ps q ≡ false
empty_lacks [] q none = refl
empty_lacks (p ∷ ps) q none = absurd (omega arith)
