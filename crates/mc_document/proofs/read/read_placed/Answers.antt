use Rattle.std.proofs.Common.{◌≡◌, ◌∙◌, None, ap, subst, sym}
use Rattle.mc_lex.specs.Left.{Left}
use Rattle.mc_text.specs.Stops.{IsEnd}
use Rattle.mc_document.specs.Sections.{first_in_lines, first_in_text, spelled_lines}
use Rattle.mc_document.proofs.ByKind.{taken_by}
use Rattle.mc_document.proofs.read.read_placed.Goals as goal

pub returns-in-Err-clause-err : goal.returns-in-Err-clause-err
returns-in-Err-clause-err g c =
    subst
    (λ (left : Left). IsEnd c.in-Err.end (first_in_lines g.row.H c.args.takes left.later left.last))
    c.new-words.ensures.lines c.in-Err.ensures.err

pub returns-in-Ok-read_sections-clause-taken : goal.returns-in-Ok-read_sections-clause-taken
returns-in-Ok-read_sections-clause-taken g c =
    let begun = sym c.new-words.ensures.lines in
    let clean : first_in_text g.row.H c.args.takes c.args.text.now ≡ None =
    ap (λ (left : Left). first_in_lines g.row.H c.args.takes left.later left.last) begun
    ∙ c.in-Ok.ensures.first
    ∙ c.in-Ok-read_sections.ensures.clean in
    let value = ap (λ (left : Left). spelled_lines g.row.H left.later) begun
    ∙ c.in-Ok.ensures.value
    ∙ c.in-Ok-read_sections.ensures.value in
    taken_by g.row.H c.args.takes c.args.text.now _ clean value
