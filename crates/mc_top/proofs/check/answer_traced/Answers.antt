use Rattle.mc_top.proofs.Tracing.{verdict_means}
use Rattle.mc_top.proofs.check.answer_traced.Goals as goal

pub returns-in-Err-clause-meaning : goal.returns-in-Err-clause-meaning
returns-in-Err-clause-meaning g c =
    verdict_means c.derivations_keep_patterns.ensures g.row.H c.args.pattern.now c.args.uses.now
    c.names-names.ensures.valid

pub returns-in-Ok-clause-meaning : goal.returns-in-Ok-clause-meaning
returns-in-Ok-clause-meaning g c =
    verdict_means c.derivations_keep_patterns.ensures g.row.H c.args.pattern.now c.args.uses.now
    c.names-names.ensures.valid

pub returns-in-Err-check_trace-clause-meaning : goal.returns-in-Err-check_trace-clause-meaning
returns-in-Err-check_trace-clause-meaning g c =
    verdict_means c.derivations_keep_patterns.ensures g.row.H c.args.pattern.now c.args.uses.now
    c.names-names.ensures.valid
