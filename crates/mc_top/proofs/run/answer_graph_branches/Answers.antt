use Rattle.std.proofs.Common.{subst}
use Rattle.mc_model.specs.Pattern.{Pattern}
use Rattle.mc_top.specs.Due.{Gives}
use Rattle.mc_top.specs.Run.{MeansBranches, due_branches}
use Rattle.mc_top.proofs.ShiftedForms.{on_ok}
use Rattle.mc_top.proofs.run.answer_graph_branches.Goals as goal

pub returns-in-Ok-clause-due : goal.returns-in-Ok-clause-due
returns-in-Ok-clause-due g c =
    subst (λ (p : Pattern). Gives c.answer_branches.result (due_branches g.row.H p))
    c.in-Ok.ensures c.answer_branches.ensures.due

pub returns-in-Ok-clause-meaning : goal.returns-in-Ok-clause-meaning
returns-in-Ok-clause-meaning g c =
    on_ok c.answer_branches.result _
    (subst (MeansBranches g.row.H) c.in-Ok.ensures c.answer_branches.ensures.meaning)
