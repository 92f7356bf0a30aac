use Rattle.std.proofs.Common.{◌≡◌, None, sym, subst, IfErr, OnOk, Option}
use Rattle.mc_text.specs.Judged.{Judgement, Place}
use Rattle.mc_text.specs.Stops.{IsEnd}
use Rattle.mc_pattern_text.specs.Judge.{pattern_rules}
use Rattle.mc_pattern_text.specs.Value.{pattern_of}
use Rattle.mc_document.specs.Sections.{behind_pattern}
use Rattle.mc_document.proofs.Opening.{both_sections, further_last}
use Rattle.mc_document.proofs.read.read_pattern_document.Goals as goal

pub returns-in-Ok-clause-clean : goal.returns-in-Ok-clause-clean
returns-in-Ok-clause-clean g c =
    let first = both_sections (pattern_rules c.args.version)
    (behind_pattern g.row.H c.args.takes) (pattern_of g.row.H)
    c.args.words.now.later c.read_pattern.new.words.later c.args.words.now.last
    c.read_pattern.new.words.last c.in-Ok.pattern c.in-Ok.ensures.clean c.in-Ok.ensures.value
    c.in-Ok.ensures.behind (further_last _ _ c.read_pattern.ensures.further) in
    subst (λ (found : Option (Judgement × Place)). OnOk c.read_behind_pattern.result (found ≡ None))
    (sym first) c.read_behind_pattern.ensures.clean

pub returns-in-Ok-clause-value : goal.returns-in-Ok-clause-value
returns-in-Ok-clause-value g c =
    rw (← c.in-Ok.ensures.value, ← c.in-Ok.ensures.behind) c.read_behind_pattern.ensures.value

pub returns-in-Ok-clause-err : goal.returns-in-Ok-clause-err
returns-in-Ok-clause-err g c =
    let first = both_sections (pattern_rules c.args.version)
    (behind_pattern g.row.H c.args.takes) (pattern_of g.row.H)
    c.args.words.now.later c.read_pattern.new.words.later c.args.words.now.last
    c.read_pattern.new.words.last c.in-Ok.pattern c.in-Ok.ensures.clean c.in-Ok.ensures.value
    c.in-Ok.ensures.behind (further_last _ _ c.read_pattern.ensures.further) in
    subst
    (λ (found : Option (Judgement × Place)). IfErr c.read_behind_pattern.result (λ end. IsEnd end found))
    (sym first) c.read_behind_pattern.ensures.err
