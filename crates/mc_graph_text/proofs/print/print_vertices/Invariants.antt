use Rattle.std.proofs.Common.{◌≡◌, ◌++◌, ◌-◌, map, take, drop}
use Rattle.mc_write.specs.Text.{text_of}
use Rattle.mc_graph_text.specs.Canonical.{vertex_line}
use Rattle.mc_graph_text.proofs.print.print_vertices.Given as goal

abbrev pub invariant-vertices : goal.invariant-vertices
invariant-vertices l =
    l.text.items
    ≡ l.initial.text.items
    ++ text_of (map vertex_line (take (l.v - l.inputs) (drop l.inputs l.names)))
