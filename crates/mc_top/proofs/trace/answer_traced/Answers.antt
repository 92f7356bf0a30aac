use Rattle.mc_top.specs.Trace.{IsTracedText, trace_limit}
use Rattle.mc_top.proofs.Serving.{gives_unless}
use Rattle.mc_top.proofs.Tracing.{told_owed, traced_means}
use Rattle.mc_top.proofs.trace.answer_traced.Goals as goal

pub returns-in-Err-clause-meaning : goal.returns-in-Err-clause-meaning
returns-in-Err-clause-meaning g c =
    traced_means c.derivations_keep_patterns.ensures g.row.H c.args.source.now
    c.names-names.ensures.valid

pub returns-clause-due : goal.returns-clause-due
returns-clause-due g c =
    let p = c.args.source.now in
    gives_unless (trace_limit p) (IsTracedText g.row.H p) c.told.result c.in_default.ensures.ok
    (told_owed c.print_traced.result c.told.result (IsTracedText g.row.H p) c.print_traced.ensures
    c.told.ensures.ok c.told.ensures.due)

pub returns-clause-meaning : goal.returns-clause-meaning
returns-clause-meaning g c =
    traced_means c.derivations_keep_patterns.ensures g.row.H c.args.source.now
    c.names-names.ensures.valid
