use Rattle.std.proofs.Common.{ap, Err}
use Rattle.mc_top.proofs.LoweredGates.{lowering_past}
use Rattle.mc_top.proofs.lower.lowered.Goals as goal

pub returns-in-Err-Limit-clause-err : goal.returns-in-Err-Limit-clause-err
returns-in-Err-Limit-clause-err c =
    let passed = c.in-Err-Limit in
    let (to, from) = passed.ensures.limit passed.gates in
    lowering_past c.args.gates.now passed.gates (to (ap Err passed.field-0-is))
