use Rattle.mc_model.specs.Graph.{base_angle}
use Rattle.mc_graph_text.specs.Canonical.{angle_lines}
use Rattle.mc_graph_text.proofs.Printing.{lines_more}
use Rattle.mc_graph_text.proofs.print.print_angles.Goals as goal

pub vertices-preserved : goal.vertices-preserved
vertices-preserved g c =
    let graph = c.args.graph.now in
    lines_more c.args.text.now.items c.vertices.text.items c.print_angle.new.text.items
    (λ v. angle_lines graph.names v (base_angle graph v)) c.vertices.v c.vertices.invariant
    (rw (← c.names.ensures.names, ← c.angle_of.ensures.angle) c.in_ok-print_angle.ensures)
