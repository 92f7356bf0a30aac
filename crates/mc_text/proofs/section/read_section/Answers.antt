use Rattle.std.proofs.Common.{ℕ, ◌∙◌, ap, sym}
use Rattle.mc_lex.specs.Left.{on_first}
use Rattle.mc_lex.proofs.Further.{further-read, further-line}
use Rattle.mc_text.proofs.Done.{one_more, last_kept}
use Rattle.mc_text.proofs.section.read_section.Goals as goal

pub returns-then-is_end-clause-further : goal.returns-then-is_end-clause-further
returns-then-is_end-clause-further g c =
    further-read _ _ _ _ c.lines.invariant.further c.next_line.ensures.left c.in-Ok.ensures.further

pub returns-in-Err-clause-further : goal.returns-in-Err-clause-further
returns-in-Err-clause-further g c =
    further-read _ _ _ _ c.lines.invariant.further c.next_line.ensures.left c.in-Err.ensures.further

pub returns-clause-further : goal.returns-clause-further
returns-clause-further g c =
    further-line _ _ _ c.next_line.ensures.left c.lines.invariant.further

pub lines-preserved : goal.lines-preserved
lines-preserved g c =
    let s = g.S.Section in
    let invariant = c.lines.invariant in
    let left = c.next_line.ensures.left
    ∙ ap (λ (end : ℕ × ℕ). on_first c.lines.words.later end) invariant.last in
    let some = sym c.next_line.ensures.found ∙ c.lines-test.true in
    let goes = sym c.is_end.ensures ∙ c.if-is_end.false in
    let more = one_more s.rules s.means (s.rules c.args.section.now) _ _ _ _ _ _ _ _ some left
    c.in-Ok.ensures.ok goes invariant.done in
    let read = c.in-Ok.ensures in
    record {
      done = rw read.later more;
      given = read.given ∙ invariant.given;
      last = read.end ∙ last_kept c.lines.words.later _ _ left;
      further = further-read _ _ _ _ invariant.further c.next_line.ensures.left read.further;
    }
