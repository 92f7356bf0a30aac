use Rattle.std.proofs.Common.{ℕ, ◌<◌, map}
use Rattle.mc_pattern.specs.Commands.{plain_command}
use Rattle.mc_trace.specs.Choosing.{IsDoneAt}
use Rattle.mc_trace.proofs.choosing.next_use.Given as goal

abbrev pub invariant-commands : goal.invariant-commands
invariant-commands g l =
    (k : ℕ) → k < l.i → IsDoneAt k (map (plain_command {h = g.row.H}) l.commands)
