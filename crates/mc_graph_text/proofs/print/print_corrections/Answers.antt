use Rattle.mc_model.specs.Graph.{fixed_at}
use Rattle.mc_graph_text.specs.Canonical.{fixed_lines}
use Rattle.mc_graph_text.proofs.Printing.{lines_more}
use Rattle.mc_graph_text.proofs.print.print_corrections.Goals as goal

pub vertices-preserved : goal.vertices-preserved
vertices-preserved g c =
    let graph = c.args.graph.now in
    lines_more c.args.text.now.items c.vertices.text.items c.print_fixed.new.text.items
    (λ v. fixed_lines graph.names v (fixed_at graph v)) c.vertices.v c.vertices.invariant
    (rw (← c.names.ensures.names, ← c.fixed.ensures) c.in_ok-print_fixed.ensures)
