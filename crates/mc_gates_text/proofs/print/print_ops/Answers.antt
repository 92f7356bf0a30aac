use Rattle.mc_gates.specs.Ops.{plain_op}
use Rattle.mc_gates_text.proofs.Printing.{ops_fit-at}
use Rattle.mc_gates_text.proofs.print.print_ops.Goals as goal

pub print_op-requires : goal.print_op-requires
print_op-requires c =
    ops_fit-at plain_op _ c.args.ops.now c.ops.op-index _ c.ops-test.true c.requires
