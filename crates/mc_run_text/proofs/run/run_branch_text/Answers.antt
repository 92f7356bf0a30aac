use Rattle.std.proofs.Common.{ap}
use Rattle.std.specs.Prelude.{Err}
use Rattle.mc_run_text.proofs.run.run_branch_text.Goals as goal

pub returns-in-Some-clause-limit : goal.returns-in-Some-clause-limit
returns-in-Some-clause-limit g c = λ which found.
    let h = c.in-Some.ensures.limit which found in
    (λ s. h.0 (cc), λ s. ap (λ x. Err x) (h.1 s))
