-- The columns of vertices behind a layer: their neighbours from that layer on.
use Rattle.std.specs.Prelude.{◌≡◌, ℕ, ◌<◌, Bool, not, ◌&&◌, nat_le, List, length}
use Rattle.mc_model.specs.Bits.{Bits}
use Rattle.mc_model.specs.Graph.{OpenGraph, size, is_input, is_output, joins}
use Rattle.mc_elim.specs.Tables.{entry, row_at}
use Rattle.mc_elim.specs.Basis.{Inserted, count_of, columns_of}

-- a vertex, no output, of a layer of at least `k`
abbrev pub is_from : OpenGraph → (ℕ → ℕ) → ℕ → Bits
is_from g layer k v = not (is_output g v) && nat_le k (layer v)

-- a vertex, no input, that is an output or of a layer below `k`
abbrev pub is_candidate : OpenGraph → (ℕ → ℕ) → ℕ → Bits
is_candidate g layer k w = not (is_input g w) && not (is_from g layer k w)

-- the neighbours of a candidate from the layer `k` on
abbrev pub column_of : OpenGraph → (ℕ → ℕ) → ℕ → ℕ → Bits
column_of g layer k w v =
    joins g.edges v w && (is_candidate g layer k w && is_from g layer k v)

-- rows of bits, as many as they are wide; the first `x` are the columns of the vertices
pub record AreColumns (g : OpenGraph) (layer : ℕ → ℕ) (k x : ℕ) (columns : List (List Bool)) :
    Type 0 where
  pub count : length columns ≡ size g
  pub width : (i : ℕ) → i < size g → length (row_at columns i) ≡ size g
  pub column : (w v : ℕ) → w < x → v < size g → entry columns w v ≡ column_of g layer k w v

-- the basis has the columns of all vertices
pub record IsBasisFor (g : OpenGraph) (layer : ℕ → ℕ) (k : ℕ) (basis : Inserted) : Type 0 where
  pub rows : basis.rows ≡ size g
  pub count : count_of basis ≡ size g
  pub column : (w v : ℕ) → w < size g → v < size g →
      columns_of basis w v ≡ column_of g layer k w v
