use Rattle.std.proofs.Common.{arith, map}
use Rattle.std.proofs.lemmas.List.{length-map}
use Rattle.mc_pattern.specs.Commands.{plain_command}
use Rattle.mc_standard.proofs.OrderedFronts.{order_more}
use Rattle.mc_standard.proofs.search.first_early.Goals as goal

pub commands-preserved : goal.commands-preserved
commands-preserved g c = (
  omega arith,
  order_more (map (plain_command {h = g.row.H}) c.args.commands.now) c.commands.k
      (rw length-map (omega arith)) c.commands.invariant.1 c.if-is_early.ensures,
)
