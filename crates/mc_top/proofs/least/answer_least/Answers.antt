use Rattle.std.proofs.Common.{subst}
use Rattle.mc_model.specs.Graph.{OpenGraph}
use Rattle.mc_document.specs.Documents.{plain_document}
use Rattle.mc_top.specs.Due.{GivesDue}
use Rattle.mc_top.specs.Least.{IsLeastDue}
use Rattle.mc_top.specs.GraphSource.{source_graph}
use Rattle.mc_top.specs.Source.{source_limit}
use Rattle.mc_top.proofs.Findings.{limit_due}
use Rattle.mc_top.proofs.Serving.{gives_unless}
use Rattle.mc_top.proofs.ShiftedForms.{on_ok}
use Rattle.mc_top.proofs.least.answer_least.Goals as goal

pub returns-in-Ok-clause-due : goal.returns-in-Ok-clause-due
returns-in-Ok-clause-due g c =
    let d = plain_document c.args.document in
    gives_unless (source_limit d) (IsLeastDue g.row.H (source_graph g.row.H d))
    c.answer_within.result c.in-Ok.ensures.few
    (subst (λ (made : OpenGraph). GivesDue (IsLeastDue g.row.H made) c.answer_within.result)
    c.in-Ok.ensures.graph c.answer_within.ensures)

pub returns-in-Ok-clause-meaning : goal.returns-in-Ok-clause-meaning
returns-in-Ok-clause-meaning g c =
    on_ok c.answer_within.result _
    (c.bounds_mean_depths.ensures.means (source_graph g.row.H (plain_document c.args.document)))

pub returns-in-Err-clause-due : goal.returns-in-Err-clause-due
returns-in-Err-clause-due g c =
    let d = plain_document c.args.document in
    limit_due c.in-Err.end (source_limit d) (IsLeastDue g.row.H (source_graph g.row.H d))
    c.in-Err.ensures.err
