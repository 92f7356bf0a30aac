use Rattle.std.proofs.Common.{◌≡◌, length, map, take}
use Rattle.mc_pattern.specs.Commands.{plain_command}
use Rattle.mc_graph.specs.Sums.{AreSums}
use Rattle.mc_graph.proofs.sums.take_all.Given as goal

abbrev pub invariant-commands : goal.invariant-commands
invariant-commands g l =
    (map (plain_command {h = g.row.H}) l.command-items ≡ l.p.commands)
    × AreSums {half = g.row.H} (length l.p.names) (take l.command-index l.p.commands) l.labels
