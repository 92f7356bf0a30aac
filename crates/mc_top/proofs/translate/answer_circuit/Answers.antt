use Rattle.mc_model.specs.Translation.{translation}
use Rattle.mc_pattern_text.specs.Canonical.{pattern_text}
use Rattle.mc_top.specs.Due.{holding}
use Rattle.mc_top.proofs.Dues.{limit_gives, translated_gives}
use Rattle.mc_top.proofs.ShiftedForms.{on_ok}
use Rattle.mc_top.proofs.translate.answer_circuit.Goals as goal

pub returns-in-Ok-clause-due : goal.returns-in-Ok-clause-due
returns-in-Ok-clause-due g c =
    translated_gives g.row.H c.args.circuit.now c.in-Ok.pattern c.told.result
    c.in-Ok.ensures.pattern c.in-Ok.ensures.few
    (c.told.ensures.due (pattern_text g.row.H c.in-Ok.pattern) c.print_pattern.ensures)

pub returns-in-Ok-clause-meaning : goal.returns-in-Ok-clause-meaning
returns-in-Ok-clause-meaning g c = on_ok c.told.result _ c.in-Ok.ensures.table

pub returns-in-Err-clause-due : goal.returns-in-Err-clause-due
returns-in-Err-clause-due g c =
    limit_gives c.in-Err.end _ (holding (pattern_text g.row.H
    (translation g.row.H c.args.circuit.now)))
    c.in-Err.ensures.err
