use Rattle.std.proofs.Common.{◌^◌, map}
use Rattle.mc_model.specs.Numbers.{numbers_from}
use Rattle.mc_run_text.specs.Canonical.{amplitude_line}
use Rattle.mc_run_text.proofs.WrittenLines.{lines_more}
use Rattle.mc_run_text.proofs.print.print_amplitudes.Goals as goal

pub inputs-preserved : goal.inputs-preserved
inputs-preserved g c =
    let table = c.args.table.now in
    lines_more c.args.text.now.items c.inputs.text.items c.print_column.new.text.items
    (λ b. map (λ y. amplitude_line g.row.H table y b) (numbers_from 0 (2 ^ table.outputs)))
    c.inputs.b c.inputs.invariant c.in_ok-print_column.ensures
