use Rattle.std.proofs.Common.{map}
use Rattle.mc_pattern.specs.Commands.{plain_command}
use Rattle.mc_derivations.specs.Effort.{room, effort}
use Rattle.mc_trace.specs.Rounds.{Settling}
use Rattle.mc_trace.proofs.rounds.settle.Given as goal

abbrev pub invariant-uses : goal.invariant-uses
invariant-uses g l =
    Settling l.fn.derivation l.derivation
    (map (plain_command {h = g.row.H}) l.fn.commands.items)
    (map (plain_command {h = g.row.H}) l.commands.items)

abbrev pub decreases-uses : goal.decreases-uses
decreases-uses g l =
    effort (room (map (plain_command {h = g.row.H}) l.fn.commands.items))
    (map (plain_command {h = g.row.H}) l.commands.items)
