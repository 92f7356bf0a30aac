use Rattle.std.proofs.Common.{subst}
use Rattle.mc_model.specs.Graph.{OpenGraph}
use Rattle.mc_model.proofs.StepLemmas.{permitted_positive}
use Rattle.mc_document.specs.Documents.{plain_document}
use Rattle.mc_top.specs.Due.{GivesDue}
use Rattle.mc_top.specs.GraphSource.{source_graph}
use Rattle.mc_top.specs.Make.{IsMakingDue}
use Rattle.mc_top.specs.Source.{source_limit}
use Rattle.mc_top.proofs.Findings.{limit_due}
use Rattle.mc_top.proofs.Making.{makes}
use Rattle.mc_top.proofs.Serving.{gives_unless}
use Rattle.mc_top.proofs.ShiftedForms.{on_ok}
use Rattle.mc_top.proofs.make.answer_make.Goals as goal

pub returns-in-Ok-clause-due : goal.returns-in-Ok-clause-due
returns-in-Ok-clause-due g c =
    let d = plain_document c.args.document in
    gives_unless (source_limit d) (IsMakingDue g.row.H (source_graph g.row.H d))
    c.answer_made.result c.in-Ok.ensures.few
    (subst (λ (made : OpenGraph). GivesDue (IsMakingDue g.row.H made) c.answer_made.result)
    c.in-Ok.ensures.graph c.answer_made.ensures)

pub returns-in-Ok-clause-meaning : goal.returns-in-Ok-clause-meaning
returns-in-Ok-clause-meaning g c =
    on_ok c.answer_made.result _
    (makes (record {
      translated = c.translations_are_valid.ensures;
      made = c.flow_patterns_are_made.ensures;
      valid = c.flow_patterns_are_valid.ensures;
      scale = c.flow_patterns_keep_scale.ensures;
      alike = c.flow_patterns_are_deterministic.ensures;
      zero = c.zero_branch_of_flow_pattern.ensures;
    }) g.row.H (permitted_positive g.row.H c.requires.permitted) (plain_document c.args.document)
    c.requires.taken c.requires.valid c.in-Ok.ensures.few)

pub returns-in-Err-clause-due : goal.returns-in-Err-clause-due
returns-in-Err-clause-due g c =
    let d = plain_document c.args.document in
    limit_due c.in-Err.end (source_limit d) (IsMakingDue g.row.H (source_graph g.row.H d))
    c.in-Err.ensures.err
