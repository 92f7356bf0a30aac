use Rattle.mc_pattern.specs.Commands.{plain_command}
use Rattle.mc_change_text.proofs.Measured.{measured_more}
use Rattle.mc_change_text.proofs.order.measured.Goals as goal

pub commands-preserved : goal.commands-preserved
commands-preserved g c =
    measured_more plain_command c.args.commands.now c.commands.command-index c.command-item.result
    c.commands.order.items c.add_measured.new.order.items c.command-item.is c.commands-test.true
    c.commands.invariant c.in_ok-add_measured.ensures
