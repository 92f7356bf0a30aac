use Rattle.std.proofs.Common.{arith}
use Rattle.mc_model.specs.Ring.{ring}
use Rattle.mc_model.proofs.StepLemmas.{permitted_positive}
use Rattle.mc_model.proofs.RingLemmas.{ring_laws}
use Rattle.mc_translate.proofs.JCounts.{few_j}
use Rattle.mc_translate.proofs.TranslationLaw as Law
use Rattle.mc_translate.proofs.translation.translate.Goals as goal

pub overflow_add-qubits : goal.overflow_add-qubits
overflow_add-qubits g c =
    let few = few_j c.args.circuit.now.gates in
    let gates = c.names.ensures.valid.few in
    let j = rw c.gates.ensures at c.count_j.ensures in
    omega arith

pub returns-in-Ok-clause-table : goal.returns-in-Ok-clause-table
returns-in-Ok-clause-table g c = λ o y b.
    let positive = permitted_positive g.row.H c.names.ensures.valid.permitted in
    rw c.in-Ok.ensures
    (Law.translation_keeps_table (ring g.row.H) (ring_laws g.row.H positive) c.args.circuit.now
    c.names.ensures.valid.valid o y b)
