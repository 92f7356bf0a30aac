use Rattle.std.proofs.Common.{◌≤◌, ◌-◌, map, take, length}
use Rattle.mc_pattern.specs.Commands.{plain_command}
use Rattle.mc_rules.specs.Settled.{InOrder}
use Rattle.mc_standard.proofs.search.first_early.Given as goal

abbrev pub invariant-commands : goal.invariant-commands
invariant-commands g l =
    (l.k ≤ length l.commands) × InOrder (take l.k (map (plain_command {h = g.row.H}) l.commands))

abbrev pub decreases-commands : goal.decreases-commands
decreases-commands g l = length l.commands - l.k
