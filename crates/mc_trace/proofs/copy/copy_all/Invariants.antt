use Rattle.std.proofs.Common.{◌≡◌, map, take}
use Rattle.mc_pattern.specs.Commands.{plain_command}
use Rattle.mc_trace.proofs.copy.copy_all.Given as goal

abbrev pub invariant-commands : goal.invariant-commands
invariant-commands g l =
    map (plain_command {h = g.row.H}) l.copies.items
    ≡ map plain_command (take l.command-index l.commands)
