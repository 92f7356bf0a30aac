-- Rows of a certificate by their keys, and tests of all of them.
use Rattle.std.proofs.Common.{◌≡◌, ℕ, zero, suc, ◌+◌, ◌<◌, ◌≤◌, Bool, true, false, ◌&&◌, ◌||◌}
use Rattle.std.proofs.Common.{cond}
use Rattle.std.proofs.Common.{List, [], ◌∷◌, map, refl, sym, ◌∙◌, ap, ap₂, subst, arith}
use Rattle.std.specs.Prelude.{All, slice_get, nat_eq, max, fold, find, option_map, unwrap_or}
use Rattle.std.specs.Prelude.{count_by, Some, None}
use Rattle.std.specs.List.{list_any, AllByRecursion, IsDistinct}
use mathlib.Core.Logic.{inl, inr}
use Rattle.std.proofs.lemmas.Bool.{eqb-true, cases_eq, eq-eqb, ne_eqb, or_parts, or_from}
use Rattle.std.proofs.lemmas.Bool.{true≢false, false≢true}
use Rattle.std.proofs.lemmas.Option.{none-some, slice_get_within, get_or_from_slice_get}
use Rattle.mc_model.specs.Bits.{Bits}
use Rattle.mc_model.specs.Numbers.{numbers_from, is_member}
use Rattle.mc_model.proofs.NumberLists.{count-first}
use Rattle.mc_graph.specs.RowLists.{row_at, has_row, HaveOwnVertices}

pub eqb_swap : (a b : ℕ) → nat_eq a b ≡ nat_eq b a
eqb_swap a b = elim (cases_eq a b) [
  | inl e ↦ eq-eqb a b e ∙ sym (eq-eqb b a (sym e))
  | inr ne ↦ ne_eqb a b ne ∙ sym (ne_eqb b a (λ e. ne (sym e)))
]

-- ---- what holds of all elements

pub all_with : {A : Type 0} (P Q R : A → Type 0) → ((x : A) → P x → Q x → R x) →
    (xs : List A) → AllByRecursion P xs → AllByRecursion Q xs → AllByRecursion R xs
all_with P Q R h [] a b = tt
all_with P Q R h (x ∷ xs) a b = (h x a.0 b.0, all_with P Q R h xs a.1 b.1)

pub all_by : {A : Type 0} (P R : A → Type 0) → ((x : A) → P x → R x) →
    (xs : List A) → AllByRecursion P xs → AllByRecursion R xs
all_by P R h xs a = all_with P P R (λ x p _. h x p) xs a a

pub all_of_map : {A B : Type 0} (P : B → Type 0) (f : A → B) (xs : List A) →
    AllByRecursion P (map f xs) → AllByRecursion (λ x. P (f x)) xs
all_of_map P f [] a = tt
all_of_map P f (x ∷ xs) a = (a.0, all_of_map P f xs a.1)

pub map_of_all : {A B : Type 0} (P : B → Type 0) (f : A → B) (xs : List A) →
    AllByRecursion (λ x. P (f x)) xs → AllByRecursion P (map f xs)
map_of_all P f [] a = tt
map_of_all P f (x ∷ xs) a = (a.0, map_of_all P f xs a.1)

-- what holds of all elements holds of the one at a place
pub all_at : {A : Type 0} (P : A → Type 0) (xs : List A) (i : ℕ) (x : A) → All P xs →
    slice_get xs i ≡ Some x → P x
all_at P xs i x all e =
    subst P (get_or_from_slice_get xs i x x e) (all i x (slice_get_within xs i x e))

pub member_holds : (P : ℕ → Type 0) (xs : List ℕ) (k : ℕ) → AllByRecursion P xs →
    is_member xs k ≡ true → P k
member_holds P [] k a e = absurd (false≢true e)
member_holds P (x ∷ xs) k a e = by (nat_eq k x) refl (member_holds P xs k a.1)
  where
    by : (b : Bool) → nat_eq k x ≡ b → (is_member xs k ≡ true → P k) → P k
    by true t rest = subst P (sym (eqb-true k x t)) a.0
    by false t rest = rest (sym (ap (λ (b : Bool). b || is_member xs k) t) ∙ e)

pub all_members : (xs : List ℕ) → AllByRecursion (λ k. is_member xs k ≡ true) xs
all_members [] = tt
all_members (x ∷ xs) = (
  ap (λ (b : Bool). b || is_member xs x) (eq-eqb x x refl),
  all_by (λ k. is_member xs k ≡ true) (λ k. is_member (x ∷ xs) k ≡ true)
      (λ k e. or_second (nat_eq k x) (is_member xs k) e) xs (all_members xs),
)
  where
    or_second : (a b : Bool) → b ≡ true → a || b ≡ true
    or_second true b e = refl
    or_second false b e = e

-- ---- tests of some and of all

pub all_false : {A : Type 0} (p : A → Bool) (xs : List A) → list_any p xs ≡ false →
    AllByRecursion (λ x. p x ≡ false) xs
all_false p [] e = tt
all_false p (x ∷ xs) e =
    let parts = or_parts (p x) (list_any p xs) e in (parts.0, all_false p xs parts.1)

pub any_false : {A : Type 0} (p : A → Bool) (xs : List A) →
    AllByRecursion (λ x. p x ≡ false) xs → list_any p xs ≡ false
any_false p [] a = refl
any_false p (x ∷ xs) a = or_from (p x) (list_any p xs) a.0 (any_false p xs a.1)

-- a test of the members of a set
pub no_member : (p : Bits) (xs : List ℕ) → list_any p xs ≡ false →
    (k : ℕ) → is_member xs k ≡ true → p k ≡ false
no_member p xs e k m = member_holds (λ k. p k ≡ false) xs k (all_false p xs e) m

pub none_member : (p : Bits) (xs : List ℕ) →
    ((k : ℕ) → is_member xs k ≡ true → p k ≡ false) → list_any p xs ≡ false
none_member p xs h =
    any_false p xs
    (all_by (λ k. is_member xs k ≡ true) (λ k. p k ≡ false) h xs (all_members xs))

-- ---- the first row with a key

abbrev pub FoundRow : {A : Type 0} → (A → Type 0) → (A → Bool) → List A → Type 0
FoundRow {A} P p rows = (r : A) × (find p rows ≡ Some r) × P r × (p r ≡ true)

found_by : {A : Type 0} (P : A → Type 0) (p : A → Bool) (r : A) (rs : List A) (b : Bool) →
    p r ≡ b → P r → (b ≡ false → FoundRow P p rs) → FoundRow P p (r ∷ rs)
found_by P p r rs true t a rest = (r, ap (λ (b : Bool). cond b (Some r) (find p rs)) t, a, t)
found_by P p r rs false t a rest =
    let found = rest refl in
    let e = found.1 in
    (found.0, ap (λ (b : Bool). cond b (Some r) (find p rs)) t ∙ e, found.2, found.3)

-- the first that passes, and what holds of all
pub found_row : {A : Type 0} (P : A → Type 0) (p : A → Bool) (rows : List A) →
    AllByRecursion P rows → list_any p rows ≡ true → FoundRow P p rows
found_row P p [] a e = absurd (false≢true e)
found_row P p (r ∷ rs) a e =
    found_by P p r rs (p r) refl a.0
    (λ t. found_row P p rs a.1 (sym (ap (λ (b : Bool). b || list_any p rs) t) ∙ e))

pub found_none : {A : Type 0} (p : A → Bool) (rows : List A) → list_any p rows ≡ false →
    find p rows ≡ None
found_none p [] e = refl
found_none p (r ∷ rs) e =
    let parts = or_parts (p r) (list_any p rs) e in
    ap (λ (b : Bool). cond b (Some r) (find p rs)) parts.0 ∙ found_none p rs parts.1

pub has_found : {A : Type 0} (p : A → Bool) (rows : List A) (r : A) → find p rows ≡ Some r →
    list_any p rows ≡ true
has_found p rows r e = by (list_any p rows) refl
  where
    by : (b : Bool) → list_any p rows ≡ b → list_any p rows ≡ true
    by true t = t
    by false t = absurd (none-some r (sym (found_none p rows t) ∙ e))

-- ---- rows with keys of their own

other_keys : {A : Type 0} (key : A → ℕ) (q : A → Bool) (v k : ℕ) (rows : List A) → v ≡ k →
    AllByRecursion (λ r. nat_eq k (key r) ≡ false) rows →
    list_any (λ r. nat_eq v (key r) && q r) rows ≡ false
other_keys key q v k rows e a =
    any_false (λ r. nat_eq v (key r) && q r) rows
    (all_by (λ r. nat_eq k (key r) ≡ false) (λ r. (nat_eq v (key r) && q r) ≡ false)
    (λ r f. ap (λ (b : Bool). b && q r) (ap (λ (j : ℕ). nat_eq j (key r)) e ∙ f)) rows a)

-- a test of the rows with a key is that of the first
pub test_of_row : {A : Type 0} (key : A → ℕ) (q : A → Bool) (rows : List A) (v : ℕ) →
    HaveOwnVertices key rows →
    list_any (λ r. nat_eq v (key r) && q r) rows
    ≡ unwrap_or (option_map q (row_at key rows v)) false
unfolding IsDistinct
test_of_row key q [] v d = refl
test_of_row {A} key q (r ∷ rs) v d = by (nat_eq v (key r)) refl (test_of_row key q rs v d.1)
  where
    tests : Bool
    tests = list_any (λ r. nat_eq v (key r) && q r) rs

    no_more : (b : Bool) → b || false ≡ b
    no_more b = grind arith

    by : (b : Bool) → nat_eq v (key r) ≡ b →
        tests ≡ unwrap_or (option_map q (row_at key rs v)) false →
        (nat_eq v (key r) && q r) || tests
        ≡ unwrap_or (option_map q (cond (nat_eq v (key r)) (Some r) (row_at key rs v))) false
    by true t rest =
        ap₂ (λ (a b : Bool). (a && q r) || b) t
        (other_keys key q v (key r) rs (eqb-true v (key r) t)
        (all_of_map (λ y. nat_eq (key r) y ≡ false) key rs d.0))
        ∙ no_more (q r)
        ∙ sym (ap (λ (b : Bool).
        unwrap_or (option_map q (cond b (Some r) (row_at key rs v))) false) t)
    by false t rest =
        ap (λ (a : Bool). (a && q r) || tests) t
        ∙ rest
        ∙ sym (ap (λ (b : Bool).
        unwrap_or (option_map q (cond b (Some r) (row_at key rs v))) false) t)

-- each row is the first with its key
pub own_rows : {A : Type 0} (key : A → ℕ) (rows : List A) → HaveOwnVertices key rows →
    AllByRecursion (λ r. row_at key rows (key r) ≡ Some r) rows
unfolding IsDistinct
own_rows key [] d = tt
own_rows {A} key (r ∷ rs) d = (
  ap (λ (b : Bool). cond b (Some r) (row_at key rs (key r))) (eq-eqb (key r) (key r) refl),
  all_with (λ s. row_at key rs (key s) ≡ Some s) (λ s. nat_eq (key r) (key s) ≡ false)
      (λ s. row_at key (r ∷ rs) (key s) ≡ Some s) later rs (own_rows key rs d.1)
      (all_of_map (λ y. nat_eq (key r) y ≡ false) key rs d.0),
)
  where
    other : (a b : ℕ) → nat_eq a b ≡ false → nat_eq b a ≡ false
    other a b f = ne_eqb b a (λ e. true≢false (sym (eq-eqb a b (sym e)) ∙ f))

    later : (s : A) → row_at key rs (key s) ≡ Some s → nat_eq (key r) (key s) ≡ false →
        row_at key (r ∷ rs) (key s) ≡ Some s
    later s e f =
        ap (λ (b : Bool). cond b (Some r) (row_at key rs (key s)))
        (other (key r) (key s) f)
        ∙ e

pub listed_has_row : {A : Type 0} (key : A → ℕ) (rows : List A) (v : ℕ) →
    is_member (map key rows) v ≡ has_row key rows v
listed_has_row key [] v = refl
listed_has_row key (r ∷ rs) v =
    ap (λ (b : Bool). nat_eq v (key r) || b) (listed_has_row key rs v)

-- ---- numbers that are listed once

not_again : (v k : ℕ) (ks : List ℕ) → v ≡ k → AllByRecursion (λ y. nat_eq k y ≡ false) ks →
    is_member ks v ≡ false
not_again v k ks e a =
    any_false (nat_eq v) ks
    (all_by (λ y. nat_eq k y ≡ false) (λ y. nat_eq v y ≡ false)
    (λ y f. ap (λ (j : ℕ). nat_eq j y) e ∙ f) ks a)

pub count_of_distinct : (ks : List ℕ) (v : ℕ) → IsDistinct nat_eq ks →
    count_by (nat_eq v) ks ≡ cond (is_member ks v) 1 0
unfolding IsDistinct
count_of_distinct [] v d = refl
count_of_distinct (k ∷ ks) v d =
    count-first v k ks ∙ by (nat_eq v k) refl (count_of_distinct ks v d.1)
  where
    nothing : (n : ℕ) → 0 + n ≡ n
    nothing n = omega arith

    by : (b : Bool) → nat_eq v k ≡ b → count_by (nat_eq v) ks ≡ cond (is_member ks v) 1 0 →
        cond (nat_eq v k) 1 0 + count_by (nat_eq v) ks ≡ cond (nat_eq v k || is_member ks v) 1 0
    by true t rest =
        ap₂ (λ (b : Bool) (n : ℕ). cond b 1 0 + n) t
        (rest ∙ ap (λ (b : Bool). cond b 1 0) (not_again v k ks (eqb-true v k t) d.0))
        ∙ sym (ap (λ (b : Bool). cond (b || is_member ks v) 1 0) t)
    by false t rest =
        ap₂ (λ (b : Bool) (n : ℕ). cond b 1 0 + n) t rest
        ∙ nothing (cond (is_member ks v) 1 0)
        ∙ sym (ap (λ (b : Bool). cond (b || is_member ks v) 1 0) t)

-- ---- the greatest of a list

pub fold_start : (a : ℕ) (xs : List ℕ) → a ≤ fold max a xs
fold_start a [] = omega arith
fold_start a (x ∷ xs) = let h = fold_start (max a x) xs in omega arith

pub fold_greatest : (a : ℕ) (xs : List ℕ) → AllByRecursion (λ x. x ≤ fold max a xs) xs
fold_greatest a [] = tt
fold_greatest a (x ∷ xs) =
    let h = fold_start (max a x) xs in
    let here : x ≤ fold max (max a x) xs = omega arith in
    (here, fold_greatest (max a x) xs)

pub fold_least : (a m : ℕ) (xs : List ℕ) → a ≤ m → AllByRecursion (λ x. x ≤ m) xs →
    fold max a xs ≤ m
fold_least a m [] l h = l
fold_least a m (x ∷ xs) l h =
    let low = h.0 in fold_least (max a x) m xs (omega arith) h.1

-- ---- what holds of all numbers below a bound

all_from : {B : Type 0} (P : B → Type 0) (f : ℕ → B) (q n : ℕ) →
    ((w : ℕ) → q ≤ w → w < q + n → P (f w)) → AllByRecursion P (map f (numbers_from q n))
all_from P f q zero h = tt
all_from P f q (suc n) h = (
  h q (omega arith) (omega arith),
  all_from P f (suc q) n (λ w low high. h w (omega arith) (omega arith)),
)

pub all_numbers : {B : Type 0} (P : B → Type 0) (f : ℕ → B) (n : ℕ) →
    ((w : ℕ) → w < n → P (f w)) → AllByRecursion P (map f (numbers_from 0 n))
all_numbers P f n h = all_from P f 0 n (λ w low high. h w (omega arith))

at_number : {B : Type 0} (P : B → Type 0) (f : ℕ → B) (q n w : ℕ) →
    AllByRecursion P (map f (numbers_from q n)) → q ≤ w → w < q + n → P (f w)
at_number P f q zero w a low high = absurd (omega arith)
at_number P f q (suc n) w a low high = elim (cases_eq q w) [
  | inl s ↦ subst (λ (k : ℕ). P (f k)) s a.0
  | inr ne ↦ at_number P f (suc q) n w a.1 (omega arith) (omega arith)
]

pub number_holds : {B : Type 0} (P : B → Type 0) (f : ℕ → B) (n w : ℕ) →
    AllByRecursion P (map f (numbers_from 0 n)) → w < n → P (f w)
number_holds P f n w a l = at_number P f 0 n w a (omega arith) (omega arith)
