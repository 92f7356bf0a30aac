use Rattle.std.proofs.Common.{◌≡◌, map, take}
use Rattle.mc_model.specs.Pattern.{measured_order}
use Rattle.mc_pattern.specs.Commands.{plain_command}
use Rattle.mc_change_text.proofs.order.measured.Given as goal

abbrev pub invariant-commands : goal.invariant-commands
invariant-commands g l =
    l.order.items ≡ measured_order (map plain_command (take l.command-index l.commands))
