use Rattle.std.proofs.Common.{◌≡◌, ◌+◌, ◌≤◌, drop, map}
use Rattle.mc_model.specs.Amplitude.{halvings}
use Rattle.mc_pattern.specs.Commands.{plain_command}
use Rattle.mc_run.proofs.branch.count_halves.Given as goal

abbrev pub invariant-commands : goal.invariant-commands
invariant-commands g l = record {
  sum : l.count + halvings (map (plain_command {h = g.row.H}) (drop l.command-index l.commands))
      ≡ halvings (map (plain_command {h = g.row.H}) l.commands);
  below : l.count ≤ l.command-index;
}
