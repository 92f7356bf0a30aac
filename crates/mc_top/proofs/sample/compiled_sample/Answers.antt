use Rattle.std.proofs.Common.{◌<◌, Err, ap, subst}
use Rattle.mc_model.specs.Pattern.{Circuit}
use Rattle.mc_model.specs.Translation.{qubit_count}
use Rattle.mc_top.proofs.Samples.{sample_fits}
use Rattle.mc_top.proofs.sample.compiled_sample.Goals as goal

pub unreachable-requires : goal.unreachable-requires
unreachable-requires c =
    let passed = c.in-Err-Limit in
    let (to, from) = passed.ensures.limit passed.field-0-0 in
    let (past, counted) = to (ap Err passed.field-0-is) in
    sample_fits c.args.number c.requires.1
    (subst (λ (made : Circuit). 256 < qubit_count made) c.in_ok-circuit.ensures past)
