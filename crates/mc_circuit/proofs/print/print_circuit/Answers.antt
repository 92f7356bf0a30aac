use Rattle.mc_circuit.proofs.Printing.{IsPrinted, printed}
use Rattle.mc_circuit.proofs.print.print_circuit.Goals as goal

pub returns : goal.returns
returns g c =
    let printed_parts : IsPrinted g.row.H c.args.circuit.now
    c.print_header.new.text.items c.print_inputs.new.text.items c.print_plus.new.text.items
    c.print_gates.new.text.items c.print_outputs.new.text.items c.print_end.new.text.items =
    record {
      header = rw c.new-text.ensures.items at c.in_ok-print_header.ensures;
      inputs = rw (← c.names-names.ensures.names, ← c.inputs.ensures) c.in_ok-print_inputs.ensures;
      plus = rw (← c.names-names.ensures.names, ← c.inputs-2.ensures) c.in_ok-print_plus.ensures;
      gates = rw (← c.names-names.ensures.names, ← c.gates.ensures) c.in_ok-print_gates.ensures;
      outputs = rw (← c.names-names.ensures.names, ← c.out.ensures) c.in_ok-print_outputs.ensures;
      end = c.in_ok-print_end.ensures;
    } in
    printed g.row.H c.args.circuit.now _ _ _ _ _ _ printed_parts
