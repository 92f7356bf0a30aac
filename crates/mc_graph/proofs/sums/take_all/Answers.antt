use Rattle.std.proofs.Common.{arith, length, take}
use Rattle.mc_pattern.specs.Commands.{plain_command}
use Rattle.mc_graph.proofs.PatternSums.{taken_sums}
use Rattle.mc_graph.proofs.SettledGraphs.{at_place}
use Rattle.mc_graph.proofs.sums.take_all.Goals as goal

pub take-requires : goal.take-requires
take-requires g c =
    let at =
    at_place c.args.p.now c.commands-command-items.result.now c.commands.command-index
    c.command-item.result c.names.ensures.valid.valid c.commands-command-items.ensures
    c.commands-test.true c.command-item.is in
    (omega arith, (omega arith, rw (c.commands.invariant.1.long) at.stands.below))

pub commands-preserved : goal.commands-preserved
commands-preserved g c =
    let p = c.args.p.now in
    let at =
    at_place p c.commands-command-items.result.now c.commands.command-index
    c.command-item.result c.names.ensures.valid.valid c.commands-command-items.ensures
    c.commands-test.true c.command-item.is in (
      c.commands.invariant.0,
      rw (at.more, c.take.ensures)
          (taken_sums (length p.names) p.inputs (take c.commands.command-index p.commands)
          c.commands.labels c.commands.invariant.1 (plain_command c.command-item.result)
          at.stands.fits at.stands.below),
    )
