use Rattle.std.proofs.Common.{arith}
use Rattle.mc_graph_text.proofs.Printing.{vertices_more}
use Rattle.mc_graph_text.proofs.print.print_vertices.Goals as goal

pub vertices-preserved : goal.vertices-preserved
vertices-preserved c =
    vertices_more c.args.text.now.items c.vertices.text.items c.print_vertex.new.text.items
    c.args.names.now c.args.inputs c.vertices.v (omega arith) (omega arith) c.vertices.invariant
    c.in_ok-print_vertex.ensures
