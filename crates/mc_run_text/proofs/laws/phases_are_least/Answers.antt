use Rattle.mc_run_text.proofs.Phases.{least_is}
use Rattle.mc_run_text.proofs.laws.phases_are_least.Goals as goal

pub returns : goal.returns
returns g c = λ a b. least_is g.row.H a b
