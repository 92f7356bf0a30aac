use Rattle.mc_top.proofs.ShiftedForms.{on_ok}
use Rattle.mc_top.proofs.run.answer_run.Goals as goal

pub returns-in-Circuit-clause-meaning : goal.returns-in-Circuit-clause-meaning
returns-in-Circuit-clause-meaning g c =
    rw c.in-Circuit.is (on_ok c.answer_table.result _ c.answer_table.ensures.meaning)

pub returns-in-Pattern-clause-meaning : goal.returns-in-Pattern-clause-meaning
returns-in-Pattern-clause-meaning g c =
    rw c.in-Pattern.is (on_ok c.answer_branches.result _ c.answer_branches.ensures.meaning)

pub returns-in-Traced-clause-meaning : goal.returns-in-Traced-clause-meaning
returns-in-Traced-clause-meaning g c =
    rw c.in-Traced.is (on_ok c.answer_branches-in-Traced.result _ c.answer_branches-in-Traced.ensures.meaning)
