use Rattle.mc_run.specs.Limits.{branch_limit}
use Rattle.mc_run_text.specs.Runs.{branch_run}
use Rattle.mc_top.proofs.ShiftedForms.{if_ok}
use Rattle.mc_top.proofs.branch.answer_values.Goals as goal

pub returns-clause-due : goal.returns-clause-due
returns-clause-due g c =
    let p = c.args.pattern.now in
    c.ran.ensures.due (branch_limit p) (branch_run g.row.H p c.args.outcomes.now)
    c.run_branch_text.ensures.text
    (if_ok c.run_branch_text.result _ c.run_branch_text.ensures.within)
    (λ which found e. let (to, from) = c.run_branch_text.ensures.limit which found in to e)
