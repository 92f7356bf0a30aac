use Rattle.std.proofs.Common.{arith}
use Rattle.mc_document.specs.Documents.{plain_document}
use Rattle.mc_top.proofs.CertifiedGraphs.{certified_fits}
use Rattle.mc_top.proofs.ShiftedForms.{on_ok}
use Rattle.mc_top.proofs.Tracing.{on_traced, on_certified, traced_few, traced_meaning}
use Rattle.mc_top.proofs.Tracing.{certified_meaning}
use Rattle.mc_top.proofs.check.answer_check.Goals as goal

pub answer_traced-requires : goal.answer_traced-requires
answer_traced-requires g c = (
  omega arith,
  traced_few g.row.H (plain_document c.args.document) _ c.requires.valid
      c.into_traced-pattern.ensures.uses,
)

pub answer_verdict-requires : goal.answer_verdict-requires
answer_verdict-requires g c = (
  omega arith,
  certified_fits g.row.H (plain_document c.args.document) _ _ c.requires.valid
      c.into_certified-graph.ensures.graph c.into_certified-graph.ensures.cert,
)

pub returns-then-is_traced-clause-due : goal.returns-then-is_traced-clause-due
returns-then-is_traced-clause-due g c =
    on_traced (plain_document c.args.document) _ _ c.answer_traced.result
    c.into_traced-pattern.ensures.pattern c.into_traced-pattern.ensures.uses
    c.answer_traced.ensures.due

pub returns-then-is_traced-clause-meaning : goal.returns-then-is_traced-clause-meaning
returns-then-is_traced-clause-meaning g c =
    on_ok c.answer_traced.result _
    (traced_meaning g.row.H (plain_document c.args.document) _ _
    c.into_traced-pattern.ensures.pattern c.into_traced-pattern.ensures.uses
    c.answer_traced.ensures.meaning)

pub returns-else-is_traced-clause-due : goal.returns-else-is_traced-clause-due
returns-else-is_traced-clause-due g c =
    on_certified (plain_document c.args.document) _ _ c.answer_verdict.result
    c.into_certified-graph.ensures.graph c.into_certified-graph.ensures.cert
    c.answer_verdict.ensures.due

pub returns-else-is_traced-clause-meaning : goal.returns-else-is_traced-clause-meaning
returns-else-is_traced-clause-meaning g c =
    on_ok c.answer_verdict.result _
    (certified_meaning g.row.H (plain_document c.args.document) _ _
    c.into_certified-graph.ensures.graph c.into_certified-graph.ensures.cert
    c.answer_verdict.ensures.meaning)
