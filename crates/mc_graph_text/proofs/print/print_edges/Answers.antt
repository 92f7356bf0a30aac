use Rattle.std.proofs.Common.{arith}
use Rattle.mc_model.specs.Graph.{size, joins}
use Rattle.mc_graph_text.proofs.Printing.{no_rows, rows_more, all_rows}
use Rattle.mc_graph_text.proofs.print.print_edges.Goals as goal

pub vertices-init : goal.vertices-init
vertices-init g c =
    let graph = c.args.graph.now in
    no_rows c.args.text.now.items graph.names (joins graph.edges) (size graph)

pub vertices-preserved : goal.vertices-preserved
vertices-preserved g c =
    let graph = c.args.graph.now in
    rows_more c.args.text.now.items c.vertices.text.items c.print_edges_up.new.text.items
    graph.names (joins graph.edges) (size graph) c.vertices.v c.vertices.invariant
    (rw (← c.neighbours.ensures.row, ← c.names.ensures.names) c.in_ok-print_edges_up.ensures)

pub returns : goal.returns
returns g c =
    let graph = c.args.graph.now in
    all_rows c.args.text.now.items c.vertices.text.items graph.names (size graph) c.vertices.v
    graph.edges c.len-v-end.ensures.valid.open_graph.edges
    (omega (arith, c.vertices-test.false, c.vertices.auto.v-end, c.len-v-end.ensures.len))
    c.vertices.invariant
