-- Tests over lists of numbers, by their members and by counts.
use Rattle.std.proofs.Common.{◌≡◌, ℕ, zero, suc, ◌+◌, ◌<◌, ◌≤◌, Bool, true, false, cond, ◌||◌, List}
use Rattle.std.proofs.Common.{[], ◌∷◌, refl, sym, ◌∙◌, ap, arith, length, get_or, set, take}
use Rattle.std.proofs.Common.{replicate, Some, get_or-set_same, get_or-set_other, length-set}
use Rattle.std.specs.Prelude.{nat_eq, slice_get, count_by, All}
use Rattle.std.specs.List.{list_any}
use Rattle.std.proofs.lemmas.Bool.{eq-eqb, ne_eqb, eqb-true, cases_Bool, cases_eq, or_cases}
use Rattle.std.proofs.lemmas.Bool.{or_left, or_right, or_from}
use Rattle.std.proofs.lemmas.List.Sums.{sum_by-cons, count_by_more_yes, count_by_more_no}
use Rattle.std.proofs.lemmas.List.Sums.{sum_by-take-le}
use Rattle.std.proofs.lemmas.List.Folds.{list_any_more, list_any_at}
use Rattle.std.proofs.lemmas.List.{get_or-replicate}
use Rattle.std.proofs.lemmas.Option.{slice_get_within, get_or_from_slice_get}
use Rattle.std.proofs.lemmas.List.Elements.{All-head, All-tail}
use mathlib.Core.Logic.{inl, inr}
use Rattle.mc_model.specs.Numbers.{numbers_from, is_member}

-- a member that passes settles a test, and a test that no member passes
pub any_by : (p : ℕ → Bool) (xs : List ℕ) (x : ℕ) → is_member xs x ≡ true → p x ≡ true →
    list_any p xs ≡ true
any_by p [] x member passes = absurd (cc member)
any_by p (y ∷ ys) x member passes = elim (or_cases (nat_eq x y) (is_member ys x) member) [
  | inl e ↦ or_left (p y) (list_any p ys) (ap p (sym (eqb-true x y e)) ∙ passes)
  | inr later ↦ or_right (p y) (list_any p ys) (any_by p ys x later passes)
]

pub none_by : (p : ℕ → Bool) (xs : List ℕ) → ((x : ℕ) → is_member xs x ≡ true → p x ≡ false) →
    list_any p xs ≡ false
none_by p [] fails = refl
none_by p (y ∷ ys) fails =
    or_from (p y) (list_any p ys)
    (fails y (or_left (nat_eq y y) (is_member ys y) (eq-eqb y y refl)))
    (none_by p ys (λ x later. fails x (or_right (nat_eq x y) (is_member ys x) later)))

pub fails_by : (p : ℕ → Bool) (xs : List ℕ) (x : ℕ) → list_any p xs ≡ false →
    is_member xs x ≡ true → p x ≡ false
fails_by p xs x none member = elim (cases_Bool (p x)) [
  | inl passes ↦ absurd (cc (any_by p xs x member passes, none))
  | inr fails ↦ fails
]

-- a number stands in a list as often as it is counted
count_cons : (k q : ℕ) (qs : List ℕ) →
    count_by (nat_eq k) (q ∷ qs) ≡ cond (nat_eq k q) 1 0 + count_by (nat_eq k) qs
count_cons k q qs = sum_by-cons (λ x. cond (nat_eq k x) 1 0) q qs

pub member_counts : (qs : List ℕ) (k : ℕ) → is_member qs k ≡ true → 1 ≤ count_by (nat_eq k) qs
member_counts [] k member = absurd (cc member)
member_counts (q ∷ qs) k member =
    let step = count_cons k q qs in
    elim (or_cases (nat_eq k q) (is_member qs k) member) [
      | inl e ↦ let first : cond {A = ℕ} (nat_eq k q) 1 0 ≡ 1 = rw e refl in omega arith
      | inr later ↦ let more = member_counts qs k later in omega arith
    ]

pub counts_member : (qs : List ℕ) (k : ℕ) → 1 ≤ count_by (nat_eq k) qs → is_member qs k ≡ true
counts_member [] k counts = absurd (omega arith)
counts_member (q ∷ qs) k counts = elim (cases_Bool (nat_eq k q)) [
  | inl e ↦ or_left (nat_eq k q) (is_member qs k) e
  | inr e ↦
      let first : cond {A = ℕ} (nat_eq k q) 1 0 ≡ 0 = rw e refl in
      let step = count_cons k q qs in
      or_right (nat_eq k q) (is_member qs k) (counts_member qs k (omega arith))
]

pub no_member : (qs : List ℕ) (k : ℕ) → is_member qs k ≡ false → count_by (nat_eq k) qs ≡ 0
no_member qs k none = elim (cases_eq (count_by (nat_eq k) qs) 0) [
  | inl e ↦ e
  | inr ne ↦ absurd (cc (counts_member qs k (omega arith), none))
]

-- the members of a list of numbers below a bound are
pub below_by : (n : ℕ) (qs : List ℕ) (k : ℕ) → All (λ q. q < n) qs → is_member qs k ≡ true → k < n
below_by n [] k below member = absurd (cc member)
below_by n (q ∷ qs) k below member = elim (or_cases (nat_eq k q) (is_member qs k) member) [
  | inl e ↦
      let same = eqb-true k q e in
      let first = All-head (λ p. p < n) q qs below in
      omega arith
  | inr later ↦ below_by n qs k (All-tail (λ p. p < n) q qs below) later
]

-- one element more
pub member_more : (qs : List ℕ) (i k : ℕ) → i < length qs →
    is_member (take (i + 1) qs) k ≡ is_member (take i qs) k || nat_eq k (get_or qs i 0)
member_more qs i k lt = list_any_more (nat_eq k) qs i 0 lt

pub count_other : (qs : List ℕ) (i k : ℕ) → i < length qs → (k ≡ get_or qs i 0 → ⊥) →
    count_by (nat_eq k) (take (i + 1) qs) ≡ count_by (nat_eq k) (take i qs)
count_other qs i k lt ne = count_by_more_no (nat_eq k) qs i 0 lt (ne_eqb k (get_or qs i 0) ne)

pub count_same : (qs : List ℕ) (i k : ℕ) → i < length qs → k ≡ get_or qs i 0 →
    count_by (nat_eq k) (take (i + 1) qs) ≡ count_by (nat_eq k) (take i qs) + 1
count_same qs i k lt e = count_by_more_yes (nat_eq k) qs i 0 lt (eq-eqb k (get_or qs i 0) e)

-- the numbers below a bound
in_numbers : (p : ℕ → Bool) (from n k : ℕ) → from ≤ k → k < from + n → p k ≡ true →
    list_any p (numbers_from from n) ≡ true
in_numbers p from zero k above below passes = absurd (omega arith)
in_numbers p from (suc n) k above below passes = elim (cases_eq k from) [
  | inl e ↦ or_left (p from) (list_any p (numbers_from (suc from) n)) (ap p (sym e) ∙ passes)
  | inr ne ↦
      or_right (p from) (list_any p (numbers_from (suc from) n))
      (in_numbers p (suc from) n k (omega arith) (omega arith) passes)
]

pub some_number : (p : ℕ → Bool) (n k : ℕ) → k < n → p k ≡ true →
    list_any p (numbers_from 0 n) ≡ true
some_number p n k below passes = in_numbers p 0 n k (omega arith) (omega arith) passes

no_numbers : (p : ℕ → Bool) (from n : ℕ) → ((k : ℕ) → from ≤ k → k < from + n → p k ≡ false) →
    list_any p (numbers_from from n) ≡ false
no_numbers p from zero fails = refl
no_numbers p from (suc n) fails =
    or_from (p from) (list_any p (numbers_from (suc from) n))
    (fails from (omega arith) (omega arith))
    (no_numbers p (suc from) n (λ k above below. fails k (omega arith) (omega arith)))

pub no_number : (p : ℕ → Bool) (n : ℕ) → ((k : ℕ) → k < n → p k ≡ false) →
    list_any p (numbers_from 0 n) ≡ false
no_number p n fails = no_numbers p 0 n (λ k above below. fails k (omega arith))

pub number_fails : (p : ℕ → Bool) (n k : ℕ) → list_any p (numbers_from 0 n) ≡ false → k < n →
    p k ≡ false
number_fails p n k none below = elim (cases_Bool (p k)) [
  | inl passes ↦ absurd (cc (some_number p n k below passes, none))
  | inr fails ↦ fails
]

-- a test so far, by one element more
pub any_there : (p : ℕ → Bool) (xs : List ℕ) (i x : ℕ) → slice_get xs i ≡ Some x → p x ≡ true →
    list_any p xs ≡ true
any_there p xs i x e passes =
    list_any_at p xs i 0 (slice_get_within xs i x e)
    (ap p (get_or_from_slice_get xs i x 0 e) ∙ passes)

pub none_more : (p : ℕ → Bool) (xs : List ℕ) (i x : ℕ) → slice_get xs i ≡ Some x →
    list_any p (take i xs) ≡ false → p x ≡ false → list_any p (take (i + 1) xs) ≡ false
none_more p xs i x e none fails =
    list_any_more p xs i 0 (slice_get_within xs i x e)
    ∙ or_from (list_any p (take i xs)) (p (get_or xs i 0)) none
    (ap p (get_or_from_slice_get xs i x 0 e) ∙ fails)

-- a mark stands at each number that was seen, and none was seen twice
pub record IsSeen (qs : List ℕ) (seen : List Bool) : Type 0 where
  pub long : length seen ≡ 256
  pub marks : (k : ℕ) → k < 256 → get_or seen k false ≡ is_member qs k
  pub once : (k : ℕ) → count_by (nat_eq k) qs ≤ 1

pub seen_none : IsSeen [] (replicate 256 false)
seen_none = record {
  long = refl;
  marks = λ k lt. get_or-replicate 256 k false false lt;
  once = λ k. omega arith;
}

-- the next number was not seen
pub seen_more : (qs : List ℕ) (seen : List Bool) (i : ℕ) → All (λ q. q < 256) qs → i < length qs →
    IsSeen (take i qs) seen →
    get_or seen (get_or qs i 0) false ≡ false →
    IsSeen (take (i + 1) qs) (set seen (get_or qs i 0) true)
seen_more qs seen i small lt h new =
    let q : ℕ = get_or qs i 0 in
    let within : q < 256 = small i 0 lt in
    let absent : is_member (take i qs) q ≡ false = sym (h.marks q within) ∙ new in
    let long = h.long in
    record {
      long = length-set seen q true ∙ long;
      marks = λ k below. elim (cases_eq k q) [
        | inl e ↦
            rw e (get_or-set_same seen q true false (omega arith)
            ∙ sym (member_more qs i q lt
            ∙ or_right (is_member (take i qs) q) (nat_eq q q) (eq-eqb q q refl)))
        | inr ne ↦
            get_or-set_other seen q k true false ne
            ∙ h.marks k below
            ∙ sym (member_more qs i k lt
            ∙ or_none (is_member (take i qs) k) (nat_eq k q) (ne_eqb k q ne))
      ];
      once = λ k. elim (cases_eq k q) [
        | inl e ↦
            let none : count_by (nat_eq k) (take i qs) ≡ 0 =
            no_member (take i qs) k (ap (is_member (take i qs)) e ∙ absent) in
            let one = count_same qs i k lt e in
            omega arith
        | inr ne ↦ let same = count_other qs i k lt ne in let few = h.once k in omega arith
      ];
    }
  where
    or_none : (a b : Bool) → b ≡ false → a || b ≡ a
    or_none true b e = refl
    or_none false b e = e

-- the next number was seen
pub seen_again : (qs : List ℕ) (seen : List Bool) (i : ℕ) → All (λ q. q < 256) qs → i < length qs →
    IsSeen (take i qs) seen →
    get_or seen (get_or qs i 0) false ≡ true → 2 ≤ count_by (nat_eq (get_or qs i 0)) qs
seen_again qs seen i small lt h old =
    let q : ℕ = get_or qs i 0 in
    let before = member_counts (take i qs) q (sym (h.marks q (small i 0 lt)) ∙ old) in
    let one = count_same qs i q lt refl in
    let front = sum_by-take-le (λ x. cond {A = ℕ} (nat_eq q x) 1 0) qs (i + 1) in
    omega arith
