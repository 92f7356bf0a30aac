-- Numbers and pairs of numbers in rising order.
use Rattle.std.specs.Prelude.{◌≡◌, ℕ, zero, suc, ◌<◌, Bool, cond, ◌&&◌, nat_eq, nat_lt, List, []}
use Rattle.std.specs.Prelude.{◌∷◌, ◌++◌, filter, count_by, All}
use Rattle.std.specs.List.{list_any}

-- `n` numbers from `q` on
abbrev pub numbers_from : ℕ → ℕ → List ℕ
numbers_from q zero = []
numbers_from q (suc n) = q ∷ numbers_from (suc q) n

-- the numbers below `n` that pass the test
abbrev pub numbers_where : (ℕ → Bool) → ℕ → List ℕ
numbers_where p n = filter p (numbers_from 0 n)

-- whether a number is in a list
abbrev pub is_member : List ℕ → ℕ → Bool
is_member qs k = list_any (nat_eq k) qs

-- the list has each number below `n` that passes the test once, and no other
pub record ListsOnce (n : ℕ) (p : ℕ → Bool) (qs : List ℕ) : Type 0 where
  pub below : All (λ q. q < n) qs
  pub once : (q : ℕ) → q < n → count_by (nat_eq q) qs ≡ cond (p q) 1 0

-- the pairs `i j` with `i < j` and `j` below a bound that pass the test, in rising order
unfoldable pub pairs_at : {A : Type 0} → (ℕ → ℕ → A) → (ℕ → ℕ → Bool) → ℕ → ℕ → List A
pairs_at make p i zero = []
pairs_at make p i (suc j) =
    pairs_at make p i j ++ cond (nat_lt i j && p i j) (make i j ∷ []) []

-- the pairs below `n` that pass the test, the lower number first, in rising order; those of the
-- first `m` numbers
unfoldable pub pairs_below : {A : Type 0} → (ℕ → ℕ → A) → (ℕ → ℕ → Bool) → ℕ → ℕ → List A
pairs_below make p n zero = []
pairs_below make p n (suc m) = pairs_below make p n m ++ pairs_at make p m n
