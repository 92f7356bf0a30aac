use Rattle.std.proofs.Common.{◌∙◌, ap, Err}
use Rattle.mc_top.proofs.Dues.{limit_past}
use Rattle.mc_top.proofs.source.translated.Goals as goal

pub returns-in-Err-Limit-clause-err : goal.returns-in-Err-Limit-clause-err
returns-in-Err-Limit-clause-err g c =
    let passed = c.in-Err-Limit in
    let (to, from) = passed.ensures.limit passed.qubits in
    limit_past c.args.circuit.now passed.qubits c.into.result
    (to (ap Err passed.field-0-is)) (c.into.ensures ∙ passed.qubits-is)
