-- The edges that pass a test rise.
use Rattle.std.proofs.Common.{◌≡◌, ℕ, zero, suc, ◌<◌, ◌≤◌, Bool, true, false, cond, ◌&&◌, List, []}
use Rattle.std.proofs.Common.{◌∷◌, ◌++◌, refl, arith}
use Rattle.std.specs.Prelude.{nat_lt, All}
use Rattle.std.proofs.lemmas.Bool.{and_parts, ltb-true}
use Rattle.std.proofs.lemmas.List.Elements.{All-nil, All-cons, All-head, All-tail, All-append}
use Rattle.std.proofs.lemmas.List.Elements.{All-weaker}
use mathlib.Core.Logic.{inl, inr}
use Rattle.mc_model.specs.Numbers.{pairs_at, pairs_below}
use Rattle.mc_model.specs.Graph.{Edge, edge, IsBehind, EdgesRise}

rises-append : (n : ℕ) (es fs : List Edge) → EdgesRise n es → EdgesRise n fs →
    All (λ e. All (IsBehind e) fs) es → EdgesRise n (es ++ fs)
rises-append n [] fs re rf behind = rf
rises-append n (e ∷ es) fs re rf behind = (
  re.0,
  re.1,
  All-append (IsBehind e) es fs re.2 (All-head (λ d. All (IsBehind d) fs) e es behind),
  rises-append n es fs re.3 rf (All-tail (λ d. All (IsBehind d) fs) e es behind),
)

all_where : (P : Edge → Type 0) (b : Bool) (e : Edge) → P e → All P (cond b (e ∷ []) [])
all_where P true e h = All-cons P e [] h (All-nil P)
all_where P false e h = All-nil P

-- an edge of the row of `i` below `j`
abbrev InRow : ℕ → ℕ → Edge → Type 0
InRow i j e = (e.one ≡ i) × (e.other < j)

in_row : (p : ℕ → ℕ → Bool) (i j : ℕ) → All (InRow i j) (pairs_at edge p i j)
unfolding pairs_at
in_row p i zero = All-nil (InRow i 0)
in_row p i (suc j) =
    All-append (InRow i (suc j)) (pairs_at edge p i j)
    (cond (nat_lt i j && p i j) (edge i j ∷ []) [])
    (All-weaker (InRow i j) (InRow i (suc j)) (λ e h. let l = h.1 in (h.0, omega arith))
    (pairs_at edge p i j) (in_row p i j))
    (all_where (InRow i (suc j)) (nat_lt i j && p i j) (edge i j) (refl, omega arith))

one_rises : (n i j : ℕ) (b : Bool) → (b ≡ true → i < j) → j < n →
    EdgesRise n (cond b (edge i j ∷ []) [])
one_rises n i j true h l = (h refl, l, All-nil (IsBehind (edge i j)), tt)
one_rises n i j false h l = tt

row_rises : (n : ℕ) (p : ℕ → ℕ → Bool) (i j : ℕ) → j ≤ n → EdgesRise n (pairs_at edge p i j)
unfolding pairs_at
row_rises n p i zero l = tt
row_rises n p i (suc j) l =
    let b : Bool = nat_lt i j && p i j in
    rises-append n (pairs_at edge p i j) (cond b (edge i j ∷ []) [])
    (row_rises n p i j (omega arith))
    (one_rises n i j b (λ e. ltb-true i j (and_parts (nat_lt i j) (p i j) e).0) (omega arith))
    (All-weaker (InRow i j) (λ e. All (IsBehind e) (cond b (edge i j ∷ []) []))
    (λ e h. all_where (IsBehind e) b (edge i j) (inr h))
    (pairs_at edge p i j) (in_row p i j))

before_row : (n : ℕ) (p : ℕ → ℕ → Bool) (m : ℕ) →
    All (λ e. e.one < m) (pairs_below edge p n m)
unfolding pairs_below
before_row n p zero = All-nil (λ e. e.one < 0)
before_row n p (suc m) =
    All-append (λ e. e.one < suc m) (pairs_below edge p n m) (pairs_at edge p m n)
    (All-weaker (λ e. e.one < m) (λ e. e.one < suc m) (λ e h. omega arith)
    (pairs_below edge p n m) (before_row n p m))
    (All-weaker (InRow m n) (λ e. e.one < suc m) (λ e h. let same = h.0 in omega arith)
    (pairs_at edge p m n) (in_row p m n))

pub pairs_rise : (n : ℕ) (p : ℕ → ℕ → Bool) (m : ℕ) → EdgesRise n (pairs_below edge p n m)
unfolding pairs_below
pairs_rise n p zero = tt
pairs_rise n p (suc m) =
    rises-append n (pairs_below edge p n m) (pairs_at edge p m n) (pairs_rise n p m)
    (row_rises n p m n (omega arith))
    (All-weaker (λ e. e.one < m) (λ e. All (IsBehind e) (pairs_at edge p m n))
    (λ e h. All-weaker (InRow m n) (IsBehind e)
    (λ f r. let same = r.0 in let l : e.one < f.one = omega arith in inl l)
    (pairs_at edge p m n) (in_row p m n))
    (pairs_below edge p n m) (before_row n p m))
