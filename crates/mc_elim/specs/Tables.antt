-- What is done to rows of bits.
use Rattle.std.specs.Prelude.{◌≡◌, ◌≢◌, ℕ, ◌+◌, ◌<◌, ◌≤◌, Bool, true, false, ◌&&◌, nat_lt, List}
use Rattle.std.specs.Prelude.{[]}
use Rattle.std.specs.Prelude.{length, slice_index, slice_index_or}
use Rattle.mc_model.specs.Bits.{◌⊻◌, Bits}
use Rattle.mc_bits.specs.Rows.{bit_of}
use Rattle.mc_elim.specs.Reduced.{rest}

abbrev pub row_at : List (List Bool) → ℕ → List Bool
row_at rows i = slice_index_or rows i []

-- the bit of a row, and 0 where there is none
abbrev pub entry : List (List Bool) → ℕ → Bits
entry rows i = bit_of (row_at rows i)

-- the row `from` was added into the row `to` where that has the bit `k`
pub record Cleared (old new : List (List Bool)) (from to k : ℕ) : Type 0 where
  pub sum : (r : ℕ) → entry new to r ≡ entry old to r ⊻ (entry old to k && entry old from r)
  pub others : (a : ℕ) → a ≢ to → row_at new a ≡ row_at old a
  pub count : length new ≡ length old
  pub width : length (row_at new to) ≡ length (row_at old to)

-- the steps of `i` tests, each of which may have counted one
pub record CountsUpTo (old new i : ℕ) (added : Bool) : Type 0 where
  pub rise : old ≤ new
  pub most : new ≤ old + i
  pub added_is : added ≡ nat_lt old new

-- the row `k` was reduced by the first `i` of the rows before it
pub record IsReducedBy (old new : List (List Bool)) (firsts : List ℕ) (k i : ℕ) : Type 0 where
  pub row : (r : ℕ) → entry new k r ≡ rest i (slice_index firsts) (entry old) (entry old k) r
  pub others : (a : ℕ) → a ≢ k → row_at new a ≡ row_at old a
  pub count : length new ≡ length old
  pub width : length (row_at new k) ≡ length (row_at old k)

-- the vector with the first row `u`, if there is one, was added into the row `k`
abbrev pub IsReducedAt : List (List Bool) → List (List Bool) → List ℕ → ℕ → ℕ → Bool → Type 0
IsReducedAt old new firsts k u true =
    (i : ℕ) × (i < k) × (slice_index firsts i ≡ u) × Cleared old new i k u
IsReducedAt old new firsts k u false =
    ((i : ℕ) → i < k → slice_index firsts i ≢ u) × (new ≡ old)

-- the row `k` was added into each of the first `i` rows that has the bit `t`
pub record IsClearedOf (old new : List (List Bool)) (k t i : ℕ) : Type 0 where
  pub done : (a r : ℕ) → a < i → entry new a r ≡ entry old a r ⊻ (entry old a t && entry old k r)
  pub left : (a : ℕ) → i ≤ a → row_at new a ≡ row_at old a
  pub count : length new ≡ length old
  pub width : (a : ℕ) → length (row_at new a) ≡ length (row_at old a)

-- nothing of the row `k` was left
pub record LeavesNothing (n k : ℕ) (firsts : List ℕ) (old new : List (List Bool)) : Type 0 where
  pub none : (r : ℕ) → r < n → rest k (slice_index firsts) (entry old) (entry old k) r ≡ false
  pub row : (r : ℕ) → entry new k r ≡ rest k (slice_index firsts) (entry old) (entry old k) r
  pub others : (a : ℕ) → a ≢ k → row_at new a ≡ row_at old a

-- something of the row `k` was left, from the bit `t` on, and the row became the next vector
pub record BecomesVector (n k : ℕ) (firsts firsts' : List ℕ) (old new : List (List Bool)) : Type 0
  where
    pub t : ℕ
    pub inside : t < n
    pub has : rest k (slice_index firsts) (entry old) (entry old k) t ≡ true
    pub lowest : (r : ℕ) → r < t →
        rest k (slice_index firsts) (entry old) (entry old k) r ≡ false
    pub vectors : (i r : ℕ) → i < k → entry new i r ≡ entry old i r
        ⊻ (entry old i t && rest k (slice_index firsts) (entry old) (entry old k) r)
    pub vector : (r : ℕ) →
        entry new k r ≡ rest k (slice_index firsts) (entry old) (entry old k) r
    pub firsts_old : (i : ℕ) → i < k → slice_index firsts' i ≡ slice_index firsts i
    pub firsts_new : slice_index firsts' k ≡ t
