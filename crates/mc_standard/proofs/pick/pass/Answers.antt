use Rattle.mc_pattern.specs.Commands.{plain_command}
use Rattle.mc_standard.proofs.PickedRules.{swaps, passed}
use Rattle.mc_standard.proofs.pick.pass.Goals as goal

pub returns-in_default : goal.returns-in_default
returns-in_default g c =
    swaps c.exchange.result (plain_command c.args.c.now) (plain_command c.args.d.now)
    c.exchange.ensures.rule c.exchange.ensures.change
    (passed c.args.c.now c.args.d.now c.in_default.not-FixX c.in_default.not-FixZ)
