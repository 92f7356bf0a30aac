-- The neighbours of vertices, and the edges by them.
use Rattle.std.specs.Prelude.{ℕ, List, filter, map, nat_lt}
use Rattle.mc_model.specs.Numbers.{numbers_where}
use Rattle.mc_model.specs.Graph.{OpenGraph, size, Edge, edge, joins}

-- the neighbours of a vertex, rising
abbrev pub neighbours : OpenGraph → ℕ → List ℕ
neighbours g v = numbers_where (joins g.edges v) (size g)

-- the edges of a vertex to those of higher number, rising
abbrev pub edges_up : OpenGraph → ℕ → List Edge
edges_up g v = map (edge v) (filter (nat_lt v) (neighbours g v))
