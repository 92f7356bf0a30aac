use Rattle.mc_circuit.proofs.Building.{each_due}
use Rattle.mc_circuit.proofs.builder.lists_each.Goals as goal

pub returns : goal.returns
returns c =
    let due = each_due c.args.wires c.args.out.now c.requires in
    (λ r. due.0 (c.lists_once.ensures.0 r), λ l. c.lists_once.ensures.1 (due.1 l))
