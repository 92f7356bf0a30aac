use Rattle.std.proofs.Common.{◌≡◌, ◌*◌, ◌≤◌, map, take}
use Rattle.mc_gates.specs.Lowering.{lowered_count}
use Rattle.mc_gates.specs.Ops.{plain_op}
use Rattle.mc_gates.proofs.count.lowered_count.Given as goal

abbrev pub invariant-ops : goal.invariant-ops
invariant-ops l =
    (l.count ≡ lowered_count (map plain_op (take l.op-index l.ops))) × (l.count ≤ 20 * l.op-index)
