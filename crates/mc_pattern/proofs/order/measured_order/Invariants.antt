use Rattle.std.proofs.Common.{◌≡◌, ◌++◌, drop, map}
use Rattle.mc_model.specs.Pattern.{measured_order}
use Rattle.mc_pattern.specs.Commands.{plain_command}
use Rattle.mc_pattern.proofs.order.measured_order.Given as goal

abbrev pub invariant-commands : goal.invariant-commands
invariant-commands g l =
    l.order.items
    ++ measured_order (map (plain_command {h = g.row.H}) (drop l.command-index l.commands))
    ≡ measured_order (map (plain_command {h = g.row.H}) l.commands)
