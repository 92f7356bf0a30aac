use Rattle.std.specs.Prelude.{unwrap_or}
use Rattle.std.proofs.Common.{◌∙◌, None, Option, sym, ap}
use Rattle.mc_document.specs.Documents.{PlainDocument, pattern}
use Rattle.mc_document.specs.Sections.{behind_pattern, with_second}
use Rattle.mc_document.proofs.Opening.{IsOpened, second_first, second_spelled, end_first}
use Rattle.mc_document.proofs.second.read_behind_pattern.Goals as goal

pub returns-in-Err-read_second-clause-err : goal.returns-in-Err-read_second-clause-err
returns-in-Err-read_second-clause-err g c =
    let o : IsOpened c.args.words.now.later c.args.words.now.last c.next_line.new.self
    c.read_header.new.words c.in-Ok.header.kind
    (c.in-Ok.header.line, c.in-Ok.header.column) =
    record {
      some = sym c.next_line.ensures.found ∙ c.if-not-next_line.false;
      opens = c.next_line.ensures.left;
      header = c.in-Ok.ensures.header;
      later = c.read_header.ensures.later;
      last = c.read_header.ensures.end;
    } in
    let first = second_first (behind_pattern g.row.H c.args.takes c.args.pattern) _ _ _ _ _ _ o
    c.in-Ok.ensures.clean in
    rw (first, ← c.in-Ok.ensures.version)
    (end_first c.in-Err-read_second.end _ _ c.in-Err-read_second.ensures.err)

pub returns-in-Ok-read_nothing-clause-clean : goal.returns-in-Ok-read_nothing-clause-clean
returns-in-Ok-read_nothing-clause-clean g c =
    let o : IsOpened c.args.words.now.later c.args.words.now.last c.next_line.new.self
    c.read_header.new.words c.in-Ok.header.kind
    (c.in-Ok.header.line, c.in-Ok.header.column) =
    record {
      some = sym c.next_line.ensures.found ∙ c.if-not-next_line.false;
      opens = c.next_line.ensures.left;
      header = c.in-Ok.ensures.header;
      later = c.read_header.ensures.later;
      last = c.read_header.ensures.end;
    } in
    let first = second_first (behind_pattern g.row.H c.args.takes c.args.pattern) _ _ _ _ _ _ o
    c.in-Ok.ensures.clean in
    rw (
      first,
      ← c.in-Ok.ensures.version,
      c.in-Ok-read_second.ensures.clean,
      ← c.in-Ok-read_second.ensures.behind,
    ) c.in-Ok-read_nothing.ensures.clean

pub returns-in-Ok-read_nothing-clause-value : goal.returns-in-Ok-read_nothing-clause-value
returns-in-Ok-read_nothing-clause-value g c =
    let o : IsOpened c.args.words.now.later c.args.words.now.last c.next_line.new.self
    c.read_header.new.words c.in-Ok.header.kind
    (c.in-Ok.header.line, c.in-Ok.header.column) =
    record {
      some = sym c.next_line.ensures.found ∙ c.if-not-next_line.false;
      opens = c.next_line.ensures.left;
      header = c.in-Ok.ensures.header;
      later = c.read_header.ensures.later;
      last = c.read_header.ensures.end;
    } in
    ap (λ (found : Option PlainDocument). unwrap_or found (pattern c.args.pattern None))
    (second_spelled (with_second g.row.H c.args.pattern) _ _ _ _ _ _ o)
    ∙ sym c.in-Ok-read_second.ensures.value

pub returns-in-Err-read_nothing-clause-err : goal.returns-in-Err-read_nothing-clause-err
returns-in-Err-read_nothing-clause-err g c =
    let o : IsOpened c.args.words.now.later c.args.words.now.last c.next_line.new.self
    c.read_header.new.words c.in-Ok.header.kind
    (c.in-Ok.header.line, c.in-Ok.header.column) =
    record {
      some = sym c.next_line.ensures.found ∙ c.if-not-next_line.false;
      opens = c.next_line.ensures.left;
      header = c.in-Ok.ensures.header;
      later = c.read_header.ensures.later;
      last = c.read_header.ensures.end;
    } in
    let first = second_first (behind_pattern g.row.H c.args.takes c.args.pattern) _ _ _ _ _ _ o
    c.in-Ok.ensures.clean in
    rw (
      first,
      ← c.in-Ok.ensures.version,
      c.in-Ok-read_second.ensures.clean,
      ← c.in-Ok-read_second.ensures.behind,
    ) c.in-Err-read_nothing.ensures.err
