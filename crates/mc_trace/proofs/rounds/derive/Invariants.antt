use Rattle.std.proofs.Common.{map}
use Rattle.mc_pattern.specs.Commands.{plain_command}
use Rattle.mc_trace.proofs.RoundLemmas.{AfterRounds}
use Rattle.mc_trace.proofs.rounds.derive.Given as goal

abbrev pub invariant-commands : goal.invariant-commands
invariant-commands g l =
    AfterRounds l.p.inputs l.p.commands l.command-index l.derivation
    (map (plain_command {h = g.row.H}) l.commands.items)
