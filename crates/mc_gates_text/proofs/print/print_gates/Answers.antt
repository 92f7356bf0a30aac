use Rattle.mc_gates_text.proofs.Printing.{IsPrinted, printed}
use Rattle.mc_gates_text.proofs.print.print_gates.Goals as goal

pub returns : goal.returns
returns c =
    let parts : IsPrinted c.args.gates.now
    c.print_header.new.text.items c.print_inputs.new.text.items c.print_plus.new.text.items
    c.print_ops.new.text.items c.print_named.new.text.items c.print_end.new.text.items =
    record {
      header = rw c.new-text.ensures.items at c.in_ok-print_header.ensures;
      inputs = rw (← c.names-names.ensures.names, ← c.inputs.ensures) c.in_ok-print_inputs.ensures;
      plus = rw (← c.names-names.ensures.names, ← c.inputs-2.ensures) c.in_ok-print_plus.ensures;
      ops = rw (← c.names-names.ensures.names, ← c.ops.ensures) c.in_ok-print_ops.ensures;
      outputs = rw (← c.names-names.ensures.names, ← c.out.ensures) c.in_ok-print_named.ensures;
      end = c.in_ok-print_end.ensures;
    } in
    printed c.args.gates.now _ _ _ _ _ _ parts
