use Rattle.std.proofs.Common.{◌∙◌, ap}
use Rattle.mc_lex.specs.declared.kind.Kind.TheVariants as kind
use Rattle.mc_text.specs.Headers.{header_words}
use Rattle.mc_write.specs.Text.{line_text}
use Rattle.mc_graph_text.proofs.Printing.{IsPrinted, printed}
use Rattle.mc_graph_text.proofs.print.print_graph.Goals as goal

pub returns : goal.returns
returns g c =
    let parts : IsPrinted g.row.H c.args.graph.now
    c.print_header.new.text.items c.print_inputs.new.text.items c.print_vertices.new.text.items
    c.print_edges.new.text.items c.print_angles.new.text.items c.print_outputs.new.text.items
    c.print_corrections.new.text.items c.print_end.new.text.items =
    record {
      header =
          (rw c.new-text.ensures.items at c.in_ok-print_header.ensures)
          ∙ ap (λ version. line_text (header_words kind.Graph version g.row.H))
          c.graph_version.ensures;
      inputs = rw (← c.names-names.ensures.names, ← c.inputs.ensures) c.in_ok-print_inputs.ensures;
      vertices =
          rw (← c.names-names.ensures.names, ← c.inputs-2.ensures) c.in_ok-print_vertices.ensures;
      edges = c.in_ok-print_edges.ensures;
      angles = c.in_ok-print_angles.ensures;
      outputs =
          rw (← c.names-names.ensures.names, ← c.outputs.ensures) c.in_ok-print_outputs.ensures;
      fixed = c.in_ok-print_corrections.ensures;
      end = c.in_ok-print_end.ensures;
    } in
    printed g.row.H c.args.graph.now _ _ _ _ _ _ _ _ parts
