-- Matrices over a ring whose elements are seen as lists of whole numbers.
use Rattle.std.specs.Prelude.{◌≡◌, ◌⊎◌, ℕ, zero, suc, ◌+◌, ◌*◌, ◌<◌, ℤ, List, [], slice_index_or}

-- how many rows and columns there are, and the entries, row by row
pub record Entries : Type 0 where
  pub rows : ℕ
  pub columns : ℕ
  pub entries : List (List ℤ)

-- the entry in a row and a column
abbrev pub at : Entries → ℕ → ℕ → List ℤ
at m r c = slice_index_or m.entries (r * m.columns + c) []

-- the sum of the first terms, from zero on and by rising numbers
abbrev pub sum_below : List ℤ → (List ℤ → List ℤ → List ℤ) → (ℕ → List ℤ) → ℕ → List ℤ
sum_below nought sum terms zero = nought
sum_below nought sum terms (suc k) = sum (sum_below nought sum terms k) (terms k)

-- the products of a row of `a` with a column of `b`
abbrev pub products : (List ℤ → List ℤ → List ℤ) → Entries → Entries → ℕ → ℕ → ℕ → List ℤ
products product a b r c k = product (at a r k) (at b k c)

-- each entry is the sum of the products of its row with its column
pub record IsProduct (nought : List ℤ) (sum product : List ℤ → List ℤ → List ℤ)
    (a b result : Entries) : Type 0 where
  pub rows : result.rows ≡ a.rows
  pub columns : result.columns ≡ b.columns
  pub entry : (r c : ℕ) → r < a.rows → c < b.columns →
      at result r c ≡ sum_below nought sum (products product a b r c) a.columns

-- a product, or the sum with it, is out of the range
abbrev pub LeavesAt : (List ℤ → Type 0) → List ℤ → (List ℤ → List ℤ → List ℤ) → (ℕ → List ℤ) →
    ℕ → Type 0
LeavesAt InRange nought sum terms k =
    (¬ InRange (terms k)) ⊎ (¬ InRange (sum_below nought sum terms (suc k)))

-- each of the first products and each sum of them is in the range
abbrev pub StaysBelow : (List ℤ → Type 0) → List ℤ → (List ℤ → List ℤ → List ℤ) → (ℕ → List ℤ) →
    ℕ → Type 0
StaysBelow InRange nought sum terms n = (k : ℕ) → k < n →
    InRange (terms k) × InRange (sum_below nought sum terms (suc k))

-- some product of a row with a column, or some sum of the first ones, is out of the range
pub record LeavesRange (InRange : List ℤ → Type 0) (nought : List ℤ)
    (sum product : List ℤ → List ℤ → List ℤ) (a b : Entries) : Type 0 where
  pub row : ℕ
  pub column : ℕ
  pub term : ℕ
  pub row_is : row < a.rows
  pub column_is : column < b.columns
  pub term_is : term < a.columns
  pub leaves : LeavesAt InRange nought sum (products product a b row column) term

-- no product of a row with a column and no sum of the first ones is out of the range
abbrev pub StaysInRange : (List ℤ → Type 0) → List ℤ → (List ℤ → List ℤ → List ℤ) →
    (List ℤ → List ℤ → List ℤ) → Entries → Entries → Type 0
StaysInRange InRange nought sum product a b = (r c : ℕ) → r < a.rows → c < b.columns →
    StaysBelow InRange nought sum (products product a b r c) a.columns
