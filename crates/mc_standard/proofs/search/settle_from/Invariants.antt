use Rattle.std.proofs.Common.{◌≡◌, ◌≤◌, ◌-◌, map, vec_len}
use Rattle.mc_pattern.specs.Commands.{plain_command}
use Rattle.mc_standard.specs.Places.{StaysSettled}
use Rattle.mc_standard.proofs.search.settle_from.Given as goal

abbrev pub invariant-commands : goal.invariant-commands
invariant-commands g l =
    (l.k ≤ vec_len l.commands) × (l.commands.items ≡ l.fn.commands.items)
    × StaysSettled l.from l.k (map (plain_command {h = g.row.H}) l.fn.commands.items)

abbrev pub decreases-commands : goal.decreases-commands
decreases-commands g l = vec_len l.commands - l.k
