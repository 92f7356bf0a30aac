use Rattle.std.proofs.Common.{◌∙◌}
use Rattle.mc_model.specs.Bits.{bits_of}
use Rattle.mc_run_text.proofs.PrintedMeaning.{branch_same}
use Rattle.mc_run_text.proofs.run.branch_text.Goals as goal

pub returns-in-Err-clause-limit : goal.returns-in-Err-clause-limit
returns-in-Err-clause-limit g c = λ which found.
    let h = c.in-Err.ensures.limit which found in
    λ s. h.0 (cc)

pub returns-in-Ok-print_branch-clause-text : goal.returns-in-Ok-print_branch-clause-text
returns-in-Ok-print_branch-clause-text g c =
    c.in-Ok-print_branch.ensures
    ∙ branch_same g.row.H c.args.pattern.now c.args.outcomes.now (bits_of c.in-Ok.values)
    c.in-Ok-run_branch.table c.in-Ok.ensures.bits c.in-Ok-run_branch.ensures.table
