-- Edges by the vertices that they join.
use Rattle.std.specs.Prelude.{ℕ, List, filter, map, nat_lt}
use Rattle.mc_model.specs.Graph.{Edge, edge}

-- those of a vertex to the higher ones of a list
abbrev pub edges_to : ℕ → List ℕ → List Edge
edges_to v ws = map (edge v) (filter (nat_lt v) ws)
