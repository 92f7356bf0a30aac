use Rattle.std.proofs.Common.{arith}
use Rattle.mc_top.proofs.FlowsFit.{chosen_of}
use Rattle.mc_top.proofs.make.print_made.Goals as goal

pub make_pattern-requires : goal.make_pattern-requires
make_pattern-requires g c =
    (omega arith, (omega arith, chosen_of c.args.graph.now c.args.flow.now c.requires))
