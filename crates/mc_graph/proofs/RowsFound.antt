-- The first row of a vertex, found place by place.
use Rattle.std.proofs.Common.{◌≡◌, ℕ, zero, suc, ◌+◌, ◌≤◌, Bool, true, false, cond, List, []}
use Rattle.std.proofs.Common.{◌∷◌, length, take, sym, ◌∙◌, ap, arith, Option, Some, None}
use Rattle.std.specs.Prelude.{find, nat_eq, slice_get, unwrap_or}
use Rattle.std.proofs.lemmas.List.{take_all}
use Rattle.std.proofs.lemmas.Option.{none-some}
use Rattle.std.proofs.lemmas.Bool.{eq-eqb, ne_eqb}
use Rattle.mc_graph.specs.RowLists.{row_at}

-- an element that passes, behind none
found : {A : Type 0} (p : A → Bool) (xs : List A) (i : ℕ) (x : A) → slice_get xs i ≡ Some x →
    p x ≡ true → find p (take i xs) ≡ None → find p xs ≡ Some x
found p [] i x at e none = absurd (none-some x at)
found p (y ∷ ys) zero x at e none =
    ap (λ (b : Bool). cond b (Some y) (find p ys)) (ap p same ∙ e) ∙ ap Some same
  where
    same : y ≡ x
    same = ap (λ (o : Option _). unwrap_or o y) at
found p (y ∷ ys) (suc i) x at e none = by (p y) none (found p ys i x at e)
  where
    by : (b : Bool) → cond b (Some y) (find p (take i ys)) ≡ None →
        (find p (take i ys) ≡ None → find p ys ≡ Some x) →
        cond b (Some y) (find p ys) ≡ Some x
    by true n h = absurd (none-some y (sym n))
    by false n h = h n

-- one more that fails
missed : {A : Type 0} (p : A → Bool) (xs : List A) (i : ℕ) (x : A) → slice_get xs i ≡ Some x →
    p x ≡ false → find p (take i xs) ≡ None → find p (take (suc i) xs) ≡ None
missed p [] i x at e none = absurd (none-some x at)
missed p (y ∷ ys) zero x at e none =
    ap (λ (b : Bool). cond b (Some y) None) (ap p same ∙ e)
  where
    same : y ≡ x
    same = ap (λ (o : Option _). unwrap_or o y) at
missed p (y ∷ ys) (suc i) x at e none = by (p y) none (missed p ys i x at e)
  where
    by : (b : Bool) → cond b (Some y) (find p (take i ys)) ≡ None →
        (find p (take i ys) ≡ None → find p (take (suc i) ys) ≡ None) →
        cond b (Some y) (find p (take (suc i) ys)) ≡ None
    by true n h = absurd (none-some y (sym n))
    by false n h = h n

pub row_found : {A : Type 0} (vertex : A → ℕ) (rows : List A) (i v : ℕ) (row : A) →
    slice_get rows i ≡ Some row → v ≡ vertex row → row_at vertex (take i rows) v ≡ None →
    row_at vertex rows v ≡ Some row
row_found vertex rows i v row at same none =
    found (λ r. nat_eq v (vertex r)) rows i row at (eq-eqb v (vertex row) same) none

pub row_missed : {A : Type 0} (vertex : A → ℕ) (rows : List A) (i v : ℕ) (row : A) →
    slice_get rows i ≡ Some row → (v ≡ vertex row → ⊥) → row_at vertex (take i rows) v ≡ None →
    row_at vertex (take (i + 1) rows) v ≡ None
row_missed vertex rows i v row at other none =
    let more : i + 1 ≡ suc i = omega arith in
    ap (λ (k : ℕ). row_at vertex (take k rows) v) more
    ∙ missed (λ r. nat_eq v (vertex r)) rows i row at (ne_eqb v (vertex row) other) none

pub no_row : {A : Type 0} (vertex : A → ℕ) (rows : List A) (i v : ℕ) → length rows ≤ i →
    row_at vertex (take i rows) v ≡ None → row_at vertex rows v ≡ None
no_row vertex rows i v all none =
    sym (ap (λ (rs : List _). row_at vertex rs v) (take_all i rows all)) ∙ none
