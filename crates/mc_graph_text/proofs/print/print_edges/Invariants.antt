use Rattle.std.proofs.Common.{◌≡◌, ◌++◌, map}
use Rattle.mc_model.specs.Numbers.{pairs_below}
use Rattle.mc_model.specs.Graph.{edge, joins, size}
use Rattle.mc_write.specs.Text.{text_of}
use Rattle.mc_graph_text.specs.Canonical.{edge_line}
use Rattle.mc_graph_text.proofs.print.print_edges.Given as goal

abbrev pub invariant-vertices : goal.invariant-vertices
invariant-vertices g l =
    l.text.items
    ≡ l.initial.text.items
    ++ text_of (map (edge_line l.graph.names)
    (pairs_below edge (joins l.graph.edges) (size l.graph) l.v))
