use Rattle.std.proofs.Common.{map, subst}
use Rattle.mc_model.specs.Pattern.{Pattern}
use Rattle.mc_top.specs.Branch.{due_outcomes}
use Rattle.mc_top.specs.Commands.{is_one}
use Rattle.mc_top.specs.Due.{Gives}
use Rattle.mc_top.proofs.branch.answer_graph_outcomes.Goals as goal

pub returns-in-Ok-clause-due : goal.returns-in-Ok-clause-due
returns-in-Ok-clause-due g c =
    subst
    (λ (p : Pattern). Gives c.answer_outcomes.result
    (due_outcomes g.row.H c.args.place (map is_one c.args.digits.now) p))
    c.in-Ok.ensures c.answer_outcomes.ensures.due
