use Rattle.mc_standard.specs.Uses.{plain_rule}
use Rattle.mc_trace.proofs.FittingLines.{two_concerned, not_of_one}
use Rattle.mc_trace.proofs.fitting.change_one.Goals as goal

pub returns-in_default : goal.returns-in_default
returns-in_default g c =
    λ new r. not_of_one (plain_rule c.args.rule) _ new
    (two_concerned c.args.rule c.in_default.not-Turn c.in_default.not-DropEmpty) r
