use Rattle.std.proofs.Common.{◌+◌, drop, map, subst, List}
use Rattle.std.proofs.lemmas.List.{drop_all, drop_more}
use Rattle.mc_gates.specs.declared.op.Op.{Op}
use Rattle.mc_gates.specs.Ops.{plain_op}
use Rattle.mc_gates.proofs.OpsLeft.{AreOpsLeft, left_behind, left_none}
use Rattle.mc_gates.proofs.lowering.push_ops.Goals as goal

pub ops-preserved : goal.ops-preserved
ops-preserved c =
    left_behind c.args.circuit.now c.args.at.now (map plain_op c.args.ops.now) c.ops.circuit
    c.ops.at _ (map plain_op (drop (c.ops.op-index + 1) c.args.ops.now)) c.push_op.new.circuit
    c.trade.new.at
    (subst (λ (ops : List Op). AreOpsLeft c.args.circuit.now c.args.at.now
    (map plain_op c.args.ops.now) c.ops.circuit c.ops.at (map plain_op ops))
    (drop_more c.args.ops.now c.ops.op-index _ c.ops-test.true) c.ops.invariant)
    c.in_ok-push_op.ensures c.trade.ensures.wires c.trade.ensures.long

pub returns-clause-gates : goal.returns-clause-gates
returns-clause-gates c =
    (left_none c.args.circuit.now c.args.at.now (map plain_op c.args.ops.now) c.ops.circuit c.ops.at
    (subst (λ (ops : List Op). AreOpsLeft c.args.circuit.now c.args.at.now
    (map plain_op c.args.ops.now) c.ops.circuit c.ops.at (map plain_op ops))
    (drop_all _ _ c.ops-test.false) c.ops.invariant)).0

pub returns-clause-wires : goal.returns-clause-wires
returns-clause-wires c =
    (left_none c.args.circuit.now c.args.at.now (map plain_op c.args.ops.now) c.ops.circuit c.ops.at
    (subst (λ (ops : List Op). AreOpsLeft c.args.circuit.now c.args.at.now
    (map plain_op c.args.ops.now) c.ops.circuit c.ops.at (map plain_op ops))
    (drop_all _ _ c.ops-test.false) c.ops.invariant)).1
