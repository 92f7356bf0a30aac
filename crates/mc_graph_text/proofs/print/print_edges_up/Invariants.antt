use Rattle.std.proofs.Common.{◌≡◌, ◌++◌, map, take}
use Rattle.mc_write.specs.Text.{text_of}
use Rattle.mc_graph_text.specs.Rows.{edges_to}
use Rattle.mc_graph_text.specs.Canonical.{edge_line}
use Rattle.mc_graph_text.proofs.print.print_edges_up.Given as goal

abbrev pub invariant-neighbours : goal.invariant-neighbours
invariant-neighbours l =
    l.text.items
    ≡ l.initial.text.items
    ++ text_of (map (edge_line l.names) (edges_to l.v (take l.w-index l.neighbours)))
