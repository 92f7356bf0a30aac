use Rattle.mc_run_text.specs.Canonical.{amplitude_line}
use Rattle.mc_run_text.proofs.WrittenLines.{line_more}
use Rattle.mc_run_text.proofs.print.print_column.Goals as goal

pub outputs-preserved : goal.outputs-preserved
outputs-preserved g c =
    line_more c.args.text.now.items c.outputs.text.items c.print_amplitude.new.text.items
    (λ y. amplitude_line g.row.H c.args.table.now y c.args.b) c.outputs.y c.outputs.invariant
    c.in_ok-print_amplitude.ensures
