-- Parts of lists, and members of lists of numbers.
use Rattle.std.proofs.Common.{◌≡◌, ℕ, zero, suc, ◌<◌, Bool, true, false, ◌&&◌, ◌||◌, All, List, []}
use Rattle.std.proofs.Common.{◌∷◌, ◌++◌, take, refl, ap, arith, length-append, eq-eqb, nat_eq}
use Rattle.std.proofs.Common.{Option, Some, None, slice_get, ◌⊎◌, inl, inr}
use Rattle.std.specs.List.{AllByRecursion}
use Rattle.std.proofs.lemmas.List.{get_or_append_left}
use Rattle.std.proofs.lemmas.List.Elements.{All-from_recursion}
use Rattle.std.proofs.lemmas.List.Sums.{fold-append}
use Rattle.mc_model.specs.Numbers.{is_member}
use Rattle.mc_text.specs.declared.head.Head.{Head}
use Rattle.mc_text.specs.Heads.{head_in}
use Rattle.mc_text.specs.Points.{last_head}
use Rattle.mc_text.specs.Judged.{Words, Lines}

pub and_both : (a b : Bool) → (a && b) ≡ true → (a ≡ true) × (b ≡ true)
and_both true b e = (refl, e)
and_both false b e = absurd (cc e)

pub or_either : (a b : Bool) → (a || b) ≡ true → (a ≡ true) ⊎ (b ≡ true)
or_either true b e = inl refl
or_either false b e = inr e

pub or_right : (a b : Bool) → b ≡ true → (a || b) ≡ true
or_right true b e = refl
or_right false b e = e

-- the front of a list with one more
pub taken_more : {A : Type 0} (xs : List A) (i : ℕ) (x : A) → slice_get xs i ≡ Some x
    → take (suc i) xs ≡ take i xs ++ x ∷ []
taken_more [] i x e = absurd (cc e)
taken_more (y ∷ ys) zero x e = let same : y ≡ x = cc e in ap (λ (z : _). z ∷ []) same
taken_more (y ∷ ys) (suc i) x e = ap (λ (zs : List _). y ∷ zs) (taken_more ys i x e)

-- bounds of numbers
pub all_front : (n : ℕ) (xs ys : List ℕ) → All (λ q. q < n) (xs ++ ys) → All (λ q. q < n) xs
all_front n xs ys below k d lt =
    let len = length-append xs ys in
    rw (← get_or_append_left xs ys d k lt) (below k d (omega arith))

below_each : (n : ℕ) (qs : List ℕ) → ((q : ℕ) → is_member qs q ≡ true → q < n)
    → AllByRecursion (λ (q : ℕ). q < n) qs
below_each n [] below = tt
below_each n (q ∷ qs) below = (
  below q (rw (eq-eqb q q refl) refl),
  below_each n qs (λ r is. below r (or_right (nat_eq r q) (is_member qs r) is)),
)

pub below_all : (n : ℕ) (qs : List ℕ) → ((q : ℕ) → is_member qs q ≡ true → q < n)
    → All (λ q. q < n) qs
below_all n qs below = All-from_recursion (λ (q : ℕ). q < n) qs (below_each n qs below)

pub among : (xs : List ℕ) (q : ℕ) (ys : List ℕ) → is_member (xs ++ q ∷ ys) q ≡ true
among [] q ys = rw (eq-eqb q q refl) refl
among (x ∷ xs) q ys = or_right (nat_eq q x) (is_member (xs ++ q ∷ ys) q) (among xs q ys)

-- the record word of the last line
pub last_head-line : (before : Lines) (here : Words) → last_head (before ++ here ∷ [])
    ≡ head_in here
last_head-line before here =
    fold-append (λ (last : Option Head) (line : Words). head_in line) None before (here ∷ [])
