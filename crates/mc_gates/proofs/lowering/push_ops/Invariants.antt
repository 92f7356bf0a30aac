use Rattle.std.proofs.Common.{drop, map}
use Rattle.mc_gates.specs.Ops.{plain_op}
use Rattle.mc_gates.proofs.OpsLeft.{AreOpsLeft}
use Rattle.mc_gates.proofs.lowering.push_ops.Given as goal

abbrev pub invariant-ops : goal.invariant-ops
invariant-ops l =
    AreOpsLeft l.fn.circuit l.fn.at (map plain_op l.ops) l.circuit l.at
    (map plain_op (drop l.op-index l.ops))
