use Rattle.mc_model.specs.StandardForm.{standard_form}
use Rattle.mc_pattern_text.specs.Canonical.{pattern_text}
use Rattle.mc_document.specs.Documents.{plain_document}
use Rattle.mc_top.specs.Standard.{IsAlikeStandardised}
use Rattle.mc_top.proofs.Dues.{from_limit, from_source, of_source}
use Rattle.mc_top.proofs.ShiftedForms.{on_ok_map, on_told}
use Rattle.mc_top.proofs.standard.answer_standard.Goals as goal

pub returns-in-Ok-clause-due : goal.returns-in-Ok-clause-due
returns-in-Ok-clause-due g c =
    from_source g.row.H (plain_document c.args.document) (λ p. pattern_text g.row.H (standard_form p))
    c.in-Ok.source c.told.result c.in-Ok.ensures.pattern c.in-Ok.ensures.few
    (c.told.ensures.due _ c.print_standard.ensures.text)

pub returns-in-Ok-clause-meaning : goal.returns-in-Ok-clause-meaning
returns-in-Ok-clause-meaning g c =
    on_told c.print_standard.result c.told.result _ c.told.ensures.ok
    (on_ok_map c.print_standard.result _ _
    (of_source g.row.H (plain_document c.args.document) c.in-Ok.source (IsAlikeStandardised g.row.H)
    c.in-Ok.ensures.pattern)
    c.print_standard.ensures.meaning)

pub returns-in-Err-clause-due : goal.returns-in-Err-clause-due
returns-in-Err-clause-due g c =
    from_limit g.row.H (plain_document c.args.document) (λ p. pattern_text g.row.H (standard_form p))
    c.in-Err.end c.source.ensures.some c.in-Err.ensures.err
