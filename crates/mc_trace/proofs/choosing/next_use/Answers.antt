use Rattle.std.proofs.Common.{below_more, arith}
use Rattle.std.proofs.lemmas.List.{length-map}
use Rattle.mc_trace.proofs.ChosenUses.{all_done}
use Rattle.mc_trace.proofs.choosing.next_use.Goals as goal

pub commands-preserved : goal.commands-preserved
commands-preserved g c =
    below_more _ _ c.commands.invariant (rw c.in_default.is at c.rule_at.ensures)

pub returns : goal.returns
returns g c =
    let end = c.commands-test.false in
    all_done _ c.commands.i (rw length-map (omega arith)) c.commands.invariant
