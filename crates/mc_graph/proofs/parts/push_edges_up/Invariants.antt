use Rattle.std.proofs.Common.{◌≡◌, ◌++◌, map, take}
use Rattle.mc_pattern.specs.Commands.{plain_command}
use Rattle.mc_graph.proofs.GraphCommands.{ups}
use Rattle.mc_graph.proofs.parts.push_edges_up.Given as goal

abbrev pub invariant-neighbours : goal.invariant-neighbours
invariant-neighbours g l =
    map (plain_command {h = g.row.H}) l.commands.items
    ≡ map (plain_command {h = g.row.H}) l.initial.commands.items ++ ups l.v (take l.w-index l.w-items)
