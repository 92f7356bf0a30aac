use Rattle.std.proofs.Common.{◌≡◌, ◌++◌, map, take}
use Rattle.mc_pattern.specs.Commands.{plain_command}
use Rattle.mc_compose.specs.Composed.{placed_commands}
use Rattle.mc_compose.specs.Placing.{placed_in_row}
use Rattle.mc_compose.proofs.placing.push_placed.Given as goal

abbrev pub invariant-commands : goal.invariant-commands
invariant-commands g l =
    map (plain_command {h = g.row.H}) l.commands.items
    ≡ map (plain_command {h = g.row.H}) l.initial.commands.items
    ++ placed_commands (placed_in_row l.inputs l.others)
    (map (plain_command {h = g.row.H}) (take l.command-index l.part))
