use Rattle.std.proofs.Common.{subst}
use Rattle.mc_model.specs.Pattern.{Command}
use Rattle.std.specs.Prelude.{List, map}
use Rattle.mc_pattern.specs.Commands.{plain_command}
use Rattle.mc_standard.specs.Running.{AllBelow, LeadsTo}
use Rattle.mc_standard.proofs.RunningPass.{rest_here}
use Rattle.mc_standard.proofs.pass.pass_over.Goals as goal

pub commands-init : goal.commands-init
commands-init g c =
    (c.in_ok-pass.ensures.roomy, c.requires, c.in_ok-pass.ensures.begins _)

pub commands-preserved : goal.commands-preserved
commands-preserved g c =
    let plain = plain_command {h = g.row.H} in
    let xs = c.args.commands.now in
    let here =
    rest_here plain xs c.commands.command-index c.command-item.result c.commands-test.true
    c.command-item.is in
    let below = subst (AllBelow 256) here c.commands.invariant.1 in (
      c.in_ok-go_on.ensures.roomy,
      below.1,
      c.in_ok-go_on.ensures.leads _ (map plain xs)
          (subst (λ (rest : List Command). LeadsTo {h = g.row.H} c.commands.pass rest (map plain xs))
          here c.commands.invariant.2),
    )
