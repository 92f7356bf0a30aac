use Rattle.std.proofs.Common.{map, drop}
use Rattle.mc_pattern.specs.Commands.{plain_command}
use Rattle.mc_standard.specs.Running.{AllBelow, IsRoomy, LeadsTo}
use Rattle.mc_standard.proofs.pass.pass_over.Given as goal

abbrev pub invariant-commands : goal.invariant-commands
invariant-commands g l =
    IsRoomy {h = g.row.H} l.pass
    × AllBelow 256 (map (plain_command {h = g.row.H}) (drop l.command-index l.commands))
    × LeadsTo {h = g.row.H} l.pass
    (map (plain_command {h = g.row.H}) (drop l.command-index l.commands))
    (map (plain_command {h = g.row.H}) l.commands)
