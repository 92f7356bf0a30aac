use Rattle.mc_circuit.specs.Canonical.{circuit_text}
use Rattle.mc_top.proofs.LoweredGates.{lowered_gives, has_gate_table}
use Rattle.mc_top.proofs.ShiftedForms.{on_ok}
use Rattle.mc_top.proofs.lower.answer_gates.Goals as goal

pub returns-in-Ok-clause-due : goal.returns-in-Ok-clause-due
returns-in-Ok-clause-due c =
    lowered_gives c.args.gates.now c.in-Ok.circuit c.told.result c.in-Ok.ensures.circuit
    c.in-Ok.ensures.few
    (c.told.ensures.due (circuit_text 4 c.in-Ok.circuit) c.print_circuit.ensures)

pub returns-in-Ok-clause-meaning : goal.returns-in-Ok-clause-meaning
returns-in-Ok-clause-meaning c =
    on_ok c.told.result _
    (has_gate_table c.lowering_keeps_table.ensures c.doublings_are_powers.ensures
    c.lowering_keeps_scale.ensures c.lowered_circuits_are_held.ensures c.args.gates.now
    c.names-list.ensures.valid c.in-Ok.ensures.few)
