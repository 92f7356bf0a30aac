-- Rows in one order that have the same members are the same rows.
use Rattle.std.proofs.Common.{◌≡◌, ◌≢◌, ◌⊎◌, ℕ, ◌<◌, ◌≤◌}
use Rattle.std.proofs.Common.{Bool, true, cond, ◌||◌, List, [], ◌∷◌, map}
use Rattle.std.proofs.Common.{Some, refl, sym, ap, ap₂, subst, ◌∙◌, inl, inr, arith}
use Rattle.std.specs.Prelude.{nat_eq, count_by, All, ⊤}
use Rattle.std.proofs.lemmas.Bool.{cases_eq, eq-eqb, ne_eqb}
use Rattle.std.proofs.lemmas.List.Elements.{All-nil, All-cons, All-head, All-tail}
use Rattle.mc_model.specs.Numbers.{is_member}
use Rattle.mc_model.specs.Signals.{IsRising, AllAbove}
use Rattle.mc_model.proofs.NumberLists.{count-first}
use Rattle.mc_graph.specs.RowLists.{row_at}

abbrev pub IsIn : {A : Type 0} → A → List A → Type 0
IsIn x [] = ⊥
IsIn x (r ∷ rows) = (x ≡ r) ⊎ IsIn x rows

abbrev pub IsOrdered : {A : Type 0} → (A → A → Type 0) → List A → Type 0
IsOrdered Before [] = ⊤
IsOrdered Before (r ∷ rows) = All (Before r) rows × IsOrdered Before rows

pub in_all : {A : Type 0} (P : A → Type 0) (x : A) (rows : List A) → All P rows → IsIn x rows → P x
in_all P x [] all h = absurd h
in_all P x (r ∷ rows) all (inl e) = subst P (sym e) (All-head P r rows all)
in_all P x (r ∷ rows) all (inr h) = in_all P x rows (All-tail P r rows all) h

same_head : {A : Type 0} (Before : A → A → Type 0) (r s : A) (rs ss : List A) →
    ((x y : A) → Before x y → Before y x → ⊥) → All (Before r) rs → All (Before s) ss →
    IsIn r (s ∷ ss) → IsIn s (r ∷ rs) → r ≡ s
same_head Before r s rs ss one_way rises rises' (inl e) h = e
same_head Before r s rs ss one_way rises rises' (inr h) (inl e) = sym e
same_head Before r s rs ss one_way rises rises' (inr h) (inr k) =
    absurd (one_way s r (in_all (Before s) r ss rises' h) (in_all (Before r) s rs rises k))

in_tail : {A : Type 0} (Before : A → A → Type 0) (r x : A) (rs ss : List A) →
    ((x y : A) → Before x y → Before y x → ⊥) → All (Before r) rs → IsIn x rs →
    IsIn x (r ∷ ss) → IsIn x ss
in_tail Before r x rs ss one_way rises h (inr k) = k
in_tail Before r x rs ss one_way rises h (inl e) =
    let before = in_all (Before r) x rs rises h in
    let self : Before r r = subst (Before r) e before in
    absurd (one_way r r self self)

pub same_rows : {A : Type 0} (Before : A → A → Type 0) (rs ss : List A) →
    ((x y : A) → Before x y → Before y x → ⊥) → IsOrdered Before rs → IsOrdered Before ss →
    ((x : A) → IsIn x rs → IsIn x ss) → ((x : A) → IsIn x ss → IsIn x rs) → rs ≡ ss
same_rows Before [] [] one_way p q to from = refl
same_rows Before [] (s ∷ ss) one_way p q to from = absurd (from s (inl refl))
same_rows Before (r ∷ rs) [] one_way p q to from = absurd (to r (inl refl))
same_rows Before (r ∷ rs) (s ∷ ss) one_way p q to from =
    let e = same_head Before r s rs ss one_way p.0 q.0 (to r (inl refl)) (from s (inl refl)) in
    let back : All (Before r) ss = subst (λ (x : _). All (Before x) ss) (sym e) q.0 in
    ap₂ (λ x xs. x ∷ xs) e
    (same_rows Before rs ss one_way p.1 q.1
    (λ x h. in_tail Before r x rs ss one_way p.0 h
    (subst (λ y. IsIn x (y ∷ ss)) (sym e) (to x (inr h))))
    (λ x h. in_tail Before r x ss rs one_way back h
    (from x (inr h))))

-- ---- rows of vertices

-- a row that is found is in the list, and counts
pub found_in : {A : Type 0} (vertex : A → ℕ) (rows : List A) (v : ℕ) (r : A) →
    row_at vertex rows v ≡ Some r →
    IsIn r rows × (v ≡ vertex r) × (1 ≤ count_by (nat_eq v) (map vertex rows))
found_in vertex [] v r e = absurd (cc e)
found_in vertex (s ∷ rows) v r e =
    let c = count-first v (vertex s) (map vertex rows) in
    elim (cases_eq v (vertex s)) [
      | inl same ↦
          let here : Some s ≡ Some r = rw (eq-eqb v (vertex s) same) at e in
          let is : s ≡ r = cc here in
          let one : cond {A = ℕ} (nat_eq v (vertex s)) 1 0 ≡ 1 =
          ap (λ (b : Bool). cond b 1 0) (eq-eqb v (vertex s) same) in
          (inl (sym is), same ∙ ap vertex is, omega arith)
      | inr ne ↦
          let later = found_in vertex rows v r (rw (ne_eqb v (vertex s) ne) at e) in
          let some = later.2 in
          (inr later.0, later.1, omega arith)
    ]

pub found_later : {A : Type 0} (vertex : A → ℕ) (s : A) (rows : List A) (v : ℕ) (r : A) →
    v ≢ vertex s → row_at vertex rows v ≡ Some r → row_at vertex (s ∷ rows) v ≡ Some r
found_later vertex s rows v r ne e = rw (ne_eqb v (vertex s) ne) e

-- a vertex that counts has a row
pub counted_found : {A : Type 0} (vertex : A → ℕ) (rows : List A) (v : ℕ) →
    1 ≤ count_by (nat_eq v) (map vertex rows) → (r : A) × (row_at vertex rows v ≡ Some r)
counted_found vertex [] v some = absurd (omega arith)
counted_found vertex (s ∷ rows) v some =
    let c = count-first v (vertex s) (map vertex rows) in
    elim (cases_eq v (vertex s)) [
      | inl same ↦ (s, rw (eq-eqb v (vertex s) same) refl)
      | inr ne ↦
          let none : cond {A = ℕ} (nat_eq v (vertex s)) 1 0 ≡ 0 =
          ap (λ (b : Bool). cond b 1 0) (ne_eqb v (vertex s) ne) in
          let later = counted_found vertex rows v (omega arith) in
          (later.0, found_later vertex s rows v later.0 ne later.1)
    ]

-- a row that is in the list is found, where no vertex has two
pub in_found : {A : Type 0} (vertex : A → ℕ) (rows : List A) (x : A) → IsIn x rows →
    count_by (nat_eq (vertex x)) (map vertex rows) ≤ 1 → row_at vertex rows (vertex x) ≡ Some x
in_found vertex [] x h once = absurd h
in_found vertex (s ∷ rows) x (inl e) once =
    rw (eq-eqb (vertex x) (vertex s) (ap vertex e)) (ap Some (sym e))
in_found vertex (s ∷ rows) x (inr h) once =
    let c = count-first (vertex x) (vertex s) (map vertex rows) in
    let later = in_found vertex rows x h (omega arith) in
    elim (cases_eq (vertex x) (vertex s)) [
      | inl same ↦
          let one : cond {A = ℕ} (nat_eq (vertex x) (vertex s)) 1 0 ≡ 1 =
          ap (λ (b : Bool). cond b 1 0) (eq-eqb (vertex x) (vertex s) same) in
          let some = (found_in vertex rows (vertex x) x later).2 in absurd (omega arith)
      | inr ne ↦ found_later vertex s rows (vertex x) x ne later
    ]

-- ---- rising lists of numbers

pub later_or : (a b : Bool) → b ≡ true → a || b ≡ true
later_or a b e = grind arith

abbrev Less : ℕ → ℕ → Type 0
Less a b = a < b

all_above : (q : ℕ) (s : List ℕ) → AllAbove q s → All (Less q) s
all_above q [] h = All-nil (Less q)
all_above q (p ∷ s) h = All-cons (Less q) p s h.0 (all_above q s h.1)

rising_ordered : (s : List ℕ) → IsRising s → IsOrdered Less s
rising_ordered [] h = tt
rising_ordered (q ∷ s) h = (all_above q s h.0, rising_ordered s h.1)

pub member_in : (s : List ℕ) (x : ℕ) → is_member s x ≡ true → IsIn x s
member_in [] x e = absurd (cc e)
member_in (q ∷ s) x e = elim (cases_eq x q) [
  | inl same ↦ inl same
  | inr ne ↦ inr (member_in s x (rw (ne_eqb x q ne) at e))
]

in_member : (s : List ℕ) (x : ℕ) → IsIn x s → is_member s x ≡ true
in_member [] x h = absurd h
in_member (q ∷ s) x (inl e) = ap (λ (b : Bool). b || is_member s x) (eq-eqb x q e)
in_member (q ∷ s) x (inr h) = later_or (nat_eq x q) (is_member s x) (in_member s x h)

pub same_members : (s t : List ℕ) → IsRising s → IsRising t →
    ((x : ℕ) → is_member s x ≡ is_member t x) → s ≡ t
same_members s t p q h =
    same_rows Less s t (λ x y l k. omega arith) (rising_ordered s p) (rising_ordered t q)
    (λ x k. member_in t x (sym (h x) ∙ in_member s x k))
    (λ x k. member_in s x (h x ∙ in_member t x k))
