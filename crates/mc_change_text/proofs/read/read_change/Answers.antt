use Rattle.std.proofs.Common.{◌≡◌, List, [], ap, subst, ◌∙◌}
use Rattle.mc_lex.specs.declared.end.TextEnd.TheVariants.{Limit}
use Rattle.mc_model.specs.Names.{Name}
use Rattle.mc_model.specs.Pattern.{measured_order}
use Rattle.mc_text.specs.Judged.{first_in_section, section_lines}
use Rattle.mc_text.specs.Stops.{IsEnd}
use Rattle.mc_rows.specs.Rows.{rows_in}
use Rattle.mc_rows.specs.Judge.{row_rules}
use Rattle.mc_change_text.specs.Kinds.{change_kind, change_shape}
use Rattle.mc_change_text.specs.Kept.{IsChangeSoFar}
use Rattle.mc_change_text.proofs.Fits.{change_fits}
use Rattle.mc_change_text.proofs.NoLimits.{change_no_limit}
use Rattle.mc_change_text.proofs.read.read_change.Goals as goal

pub returns-in-Err-clause-no_limit : goal.returns-in-Err-clause-no_limit
returns-in-Err-clause-no_limit g c = λ which found e.
    let reader = c.new-reader.result in
    let left = c.args.words.now in
    let same : c.in-Err.end ≡ Limit which found = cc e in
    let kind = change_kind reader.kind.second reader.kind.order.items in
    let rules = row_rules kind reader.names.now in
    let answer : IsEnd (Limit which found) (first_in_section rules [] left.later left.last) =
    rw same at c.in-Err.ensures.err in
    change_no_limit reader.names.now reader.kind.second reader.kind.order.items left.later left.last
    which found answer

pub returns-clause-fits : goal.returns-clause-fits
returns-clause-fits g c =
    let p = c.args.pattern.now in
    let reader = c.new-reader.result in
    let ended = c.read_section.new.section in
    let left = c.args.words.now in
    let given = c.in_default-read_section.ensures.given in
    let names : ended.names.now ≡ reader.names.now = cc given in
    let kept = subst (λ (ns : List Name). IsChangeSoFar ended.kind.change ended.kind.done
    (rows_in change_shape ns (section_lines left.later))) names
    c.in_default-read_section.ensures.read.held_rows in
    let order : reader.kind.order.items ≡ measured_order p.commands =
    ap (λ kind. kind.order.items) c.new-reader.ensures.kind
    ∙ c.new-kind.ensures.order ∙ c.in-Ok.ensures ∙ ap measured_order c.commands.ensures in
    change_fits reader.names.now reader.kind.second reader.kind.order.items p ended.kind.change
    ended.kind.done left.later left.last c.in_default-read_section.ensures.clean kept order
