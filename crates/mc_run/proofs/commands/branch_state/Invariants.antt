use Rattle.std.proofs.Common.{drop, map}
use Rattle.mc_model.specs.Bits.{bits_of}
use Rattle.mc_model.specs.Amplitude.{start, after}
use Rattle.mc_pattern.specs.Commands.{plain_command}
use Rattle.mc_run.specs.Exact.{Exact, exact, phases}
use Rattle.mc_run.specs.Settings.{spelled}
use Rattle.mc_run.specs.Branches.{CommandsLeft}
use Rattle.mc_run.proofs.commands.branch_state.Given as goal

abbrev pub invariant-commands : goal.invariant-commands
invariant-commands g l =
    let ring : Exact =
    exact g.R.Ring.nought g.R.Ring.unit g.R.Ring.sum_of g.R.Ring.negative_of
    g.R.PhaseRing.turned_by g.R.PhaseRing.HALF g.R.PhaseRing.height_of in
    CommandsLeft ring g.R.Ring.IsElement (bits_of l.outcomes) l.pattern.inputs l.pattern.commands
    (after (phases ring) (bits_of l.outcomes) l.pattern.commands
    (start (phases ring) l.pattern.inputs (bits_of (spelled l.pattern.inputs l.b))))
    (map (plain_command {h = g.row.H}) (drop l.command-index l.command-items))
    l.state.live.items (map g.R.Ring.seen l.state.entries.items)
