-- Lists of rows, one for a vertex.
use Rattle.std.specs.Prelude.{ℕ, ◌<◌, nat_eq, List, map, find, All, Option}
use Rattle.std.specs.List.{IsDistinct, list_any}
use Rattle.mc_model.specs.Bits.{Bits}

-- the first row of a vertex
abbrev pub row_at : {A : Type 0} → (A → ℕ) → List A → ℕ → Option A
row_at vertex rows v = find (λ r. nat_eq v (vertex r)) rows

-- whether a vertex has a row
abbrev pub has_row : {A : Type 0} → (A → ℕ) → List A → Bits
has_row vertex rows v = list_any (λ r. nat_eq v (vertex r)) rows

-- each row is of a vertex and has a set of vertices
pub record AreRowsOf {A : Type 0} (n : ℕ) (vertex : A → ℕ) (set : A → List ℕ) (rows : List A) :
    Type 0 where
  pub vertices : All (λ r. vertex r < n) rows
  pub members : All (λ r. All (λ k. k < n) (set r)) rows

-- no two rows are of the same vertex
abbrev pub HaveOwnVertices : {A : Type 0} → (A → ℕ) → List A → Type 0
HaveOwnVertices vertex rows = IsDistinct nat_eq (map vertex rows)
