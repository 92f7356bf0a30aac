use Rattle.mc_model.specs.Graph.{graph_of}
use Rattle.mc_graph.specs.Laws.{KeepsZeroBranch}
use Rattle.mc_graph_text.specs.Canonical.{graph_text}
use Rattle.mc_document.specs.Documents.{plain_document}
use Rattle.mc_top.proofs.Dues.{from_limit, from_source, of_source}
use Rattle.mc_top.proofs.ShiftedForms.{on_ok}
use Rattle.mc_top.proofs.graph.answer_graph.Goals as goal

pub returns-in-Ok-clause-due : goal.returns-in-Ok-clause-due
returns-in-Ok-clause-due g c =
    from_source g.row.H (plain_document c.args.document)
    (λ p. graph_text g.row.H (graph_of g.row.H p)) c.in-Ok.source c.answer_pattern.result
    c.in-Ok.ensures.pattern c.in-Ok.ensures.few c.answer_pattern.ensures.due

pub returns-in-Ok-clause-meaning : goal.returns-in-Ok-clause-meaning
returns-in-Ok-clause-meaning g c =
    on_ok c.answer_pattern.result _
    (of_source g.row.H (plain_document c.args.document) c.in-Ok.source (KeepsZeroBranch g.row.H)
    c.in-Ok.ensures.pattern c.answer_pattern.ensures.meaning)

pub returns-in-Err-clause-due : goal.returns-in-Err-clause-due
returns-in-Err-clause-due g c =
    from_limit g.row.H (plain_document c.args.document)
    (λ p. graph_text g.row.H (graph_of g.row.H p)) c.in-Err.end c.source.ensures.some
    c.in-Err.ensures.err
