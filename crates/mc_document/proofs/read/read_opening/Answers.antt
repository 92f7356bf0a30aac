use Rattle.std.proofs.Common.{◌∙◌, sym}
use Rattle.mc_document.proofs.Opening.{IsOpened, opened_first, opened_place, opened_spelled, starts}
use Rattle.mc_document.proofs.read.read_opening.Goals as goal

pub returns-in-Ok-clause-first : goal.returns-in-Ok-clause-first
returns-in-Ok-clause-first g c =
    let o : IsOpened c.args.words.now.later c.args.words.now.last c.next_line.new.self
    c.read_header.new.words c.in-Ok.header.kind (c.in-Ok.header.line, c.in-Ok.header.column) =
    record {
      some = sym c.next_line.ensures.found ∙ c.if-not-next_line.false;
      opens = c.next_line.ensures.left;
      header = c.in-Ok.ensures.header;
      later = c.read_header.ensures.later;
      last = c.read_header.ensures.end;
    } in
    rw c.in-Ok.ensures.version
    (opened_first g.row.H c.args.takes _ _ _ _ _ _ o c.in-Ok.ensures.clean)

pub returns-in-Ok-clause-value : goal.returns-in-Ok-clause-value
returns-in-Ok-clause-value g c =
    let o : IsOpened c.args.words.now.later c.args.words.now.last c.next_line.new.self
    c.read_header.new.words c.in-Ok.header.kind (c.in-Ok.header.line, c.in-Ok.header.column) =
    record {
      some = sym c.next_line.ensures.found ∙ c.if-not-next_line.false;
      opens = c.next_line.ensures.left;
      header = c.in-Ok.ensures.header;
      later = c.read_header.ensures.later;
      last = c.read_header.ensures.end;
    } in
    opened_spelled g.row.H _ _ _ _ _ _ o

pub returns-in-Ok-clause-place : goal.returns-in-Ok-clause-place
returns-in-Ok-clause-place g c =
    let o : IsOpened c.args.words.now.later c.args.words.now.last c.next_line.new.self
    c.read_header.new.words c.in-Ok.header.kind (c.in-Ok.header.line, c.in-Ok.header.column) =
    record {
      some = sym c.next_line.ensures.found ∙ c.if-not-next_line.false;
      opens = c.next_line.ensures.left;
      header = c.in-Ok.ensures.header;
      later = c.read_header.ensures.later;
      last = c.read_header.ensures.end;
    } in
    opened_place _ _ _ _ _ _ o

pub returns-in-Ok-clause-starts : goal.returns-in-Ok-clause-starts
returns-in-Ok-clause-starts g c =
    starts c.args.takes c.next_line.new.self.here c.next_line.new.self.lack c.in-Ok.header.kind
    (c.in-Ok.header.line, c.in-Ok.header.column) c.in-Ok.ensures.header c.in-Ok.ensures.clean
