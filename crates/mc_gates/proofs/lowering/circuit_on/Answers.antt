use Rattle.std.proofs.Common.{length, ◌∙◌}
use Rattle.mc_model.proofs.NumberLists.{length-numbers_from}
use Rattle.mc_gates.proofs.OpsLeft.{whole}
use Rattle.mc_gates.proofs.lowering.circuit_on.Goals as goal

pub push_ops-requires : goal.push_ops-requires
push_ops-requires c =
    let names = c.args.g.now.names in
    rw (c.requires.order, length-numbers_from 0 (length names), c.ops.ensures)
    c.names-list.ensures.valid.valid.ops

pub wires_of-requires : goal.wires_of-requires
wires_of-requires c =
    let names = c.args.g.now.names in
    rw (
      c.in_ok-push_ops.ensures.long,
      c.requires.order,
      length-numbers_from 0 (length names),
      c.out.ensures,
    ) c.names-list.ensures.valid.valid.outputs.below

pub returns : goal.returns
returns c =
    let g = c.args.g.now in
    let made =
    whole g c.args.circuit c.push_ops.new.circuit c.args.at.now c.push_ops.new.at
    c.deref.result.now c.requires.wires c.requires.order
    (rw c.ops.ensures at c.in_ok-push_ops.ensures.gates)
    (rw c.ops.ensures at c.in_ok-push_ops.ensures.wires)
    (c.deref.ensures.value ∙ rw c.out.ensures at c.in_ok-out.ensures) in
    rw made at c.with_outputs.ensures
