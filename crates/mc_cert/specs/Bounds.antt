-- Bounds of depth as what they say, and those that fit a graph.
use Rattle.std.specs.Prelude.{ℕ, ◌+◌, ◌<◌, List, All, length}
use Rattle.mc_model.specs.Graph.{OpenGraph, size}
use Rattle.mc_graph.specs.RowLists.{HaveOwnVertices}
use Rattle.mc_cert.specs.BoundRecords.{LayerRow, BoundRow}
use Rattle.mc_cert.specs.BoundRules.{AreBoundRows, AreApart}

-- a depth, layers of vertices, and sets that keep vertices from layers
pub record BoundRows : Type 0 where
  pub depth : ℕ
  pub layers : List LayerRow
  pub rows : List BoundRow

-- no vertex has two layers, nor two sets for the same layer
pub record AreOwn (layers : List LayerRow) (rows : List BoundRow) : Type 0 where
  pub own : HaveOwnVertices (λ r. r.vertex) layers
  pub apart : AreApart rows

-- the vertices and the members of the sets are vertices of the graph, and the rows have numbers of
-- 32 bits
pub record IsBoundIn (g : OpenGraph) (b : BoundRows) : Type 0 where
  pub layers : All (λ r. r.vertex < size g) b.layers
  pub rows : AreBoundRows g b.rows
  pub few : length b.layers + length b.rows < 4294967295
