-- Rows of a bound of depth.
use Rattle.std.specs.Prelude.{ℕ, List}

-- a vertex and its layer
pub record LayerRow : Type 0 where
  pub vertex : ℕ
  pub layer : ℕ

-- a vertex, and a set that keeps it from the layer `k`
pub record BoundRow : Type 0 where
  pub k : ℕ
  pub vertex : ℕ
  pub set : List ℕ
