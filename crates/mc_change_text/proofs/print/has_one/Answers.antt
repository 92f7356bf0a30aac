use Rattle.std.proofs.Common.{sym, ◌∙◌}
use Rattle.mc_model.specs.Shift.{ChangeRow}
use Rattle.mc_change_text.proofs.Printing.{has_it, has_more}
use Rattle.mc_change_text.proofs.print.has_one.Goals as goal

pub returns-then-constant : goal.returns-then-constant
returns-then-constant c =
    let row : ChangeRow = record { qubit = c.row.result.0; signal = c.row.result.1.now } in
    sym (has_it c.args.change.now c.rows.i row c.row.ensures
    (sym c.constant.ensures ∙ c.if-constant.true))

pub rows-preserved : goal.rows-preserved
rows-preserved c =
    let row : ChangeRow = record { qubit = c.row.result.0; signal = c.row.result.1.now } in
    has_more c.args.change.now c.rows.i row c.row.ensures c.rows.invariant
    (sym c.constant.ensures ∙ c.if-constant.false)
