use Rattle.std.proofs.Common.{◌∙◌, Some, sym, ap}
use Rattle.mc_cert_text.specs.Kinds.{cert_in}
use Rattle.mc_document.specs.Sections.{behind_graph}
use Rattle.mc_document.proofs.Opening.{IsOpened, second_first, second_spelled, end_first}
use Rattle.mc_document.proofs.second.read_behind_graph.Goals as goal

pub returns-in-Err-read_cert-clause-err : goal.returns-in-Err-read_cert-clause-err
returns-in-Err-read_cert-clause-err g c =
    let o : IsOpened c.args.words.now.later c.args.words.now.last c.next_line.new.self
    c.read_header.new.words c.in-Ok.header.kind
    (c.in-Ok.header.line, c.in-Ok.header.column) =
    record {
      some = sym c.next_line.ensures.found ∙ c.if-not-next_line.false;
      opens = c.next_line.ensures.left;
      header = c.in-Ok.ensures.header;
      later = c.read_header.ensures.later;
      last = c.read_header.ensures.end;
    } in
    let first = second_first (behind_graph c.args.due c.args.graph.now) _ _ _ _ _ _ o
    c.in-Ok.ensures.clean in
    rw first (end_first c.in-Err-read_cert.end _ _ c.in-Err-read_cert.ensures.err)

pub returns-in-Ok-read_nothing-clause-clean : goal.returns-in-Ok-read_nothing-clause-clean
returns-in-Ok-read_nothing-clause-clean g c =
    let o : IsOpened c.args.words.now.later c.args.words.now.last c.next_line.new.self
    c.read_header.new.words c.in-Ok.header.kind
    (c.in-Ok.header.line, c.in-Ok.header.column) =
    record {
      some = sym c.next_line.ensures.found ∙ c.if-not-next_line.false;
      opens = c.next_line.ensures.left;
      header = c.in-Ok.ensures.header;
      later = c.read_header.ensures.later;
      last = c.read_header.ensures.end;
    } in
    let first = second_first (behind_graph c.args.due c.args.graph.now) _ _ _ _ _ _ o
    c.in-Ok.ensures.clean in
    rw (first, c.in-Ok-read_cert.ensures.clean, ← c.in-Ok-read_cert.ensures.behind)
    c.in-Ok-read_nothing.ensures.clean

pub returns-in-Ok-read_nothing-clause-value : goal.returns-in-Ok-read_nothing-clause-value
returns-in-Ok-read_nothing-clause-value g c =
    let o : IsOpened c.args.words.now.later c.args.words.now.last c.next_line.new.self
    c.read_header.new.words c.in-Ok.header.kind
    (c.in-Ok.header.line, c.in-Ok.header.column) =
    record {
      some = sym c.next_line.ensures.found ∙ c.if-not-next_line.false;
      opens = c.next_line.ensures.left;
      header = c.in-Ok.ensures.header;
      later = c.read_header.ensures.later;
      last = c.read_header.ensures.end;
    } in
    let first = second_first (behind_graph c.args.due c.args.graph.now) _ _ _ _ _ _ o
    c.in-Ok.ensures.clean in
    second_spelled (λ kind place lines. cert_in kind c.args.graph.now.names lines) _ _ _ _ _ _ o
    ∙ ap Some (sym c.in-Ok-read_cert.ensures.value)

pub returns-in-Err-read_nothing-clause-err : goal.returns-in-Err-read_nothing-clause-err
returns-in-Err-read_nothing-clause-err g c =
    let o : IsOpened c.args.words.now.later c.args.words.now.last c.next_line.new.self
    c.read_header.new.words c.in-Ok.header.kind
    (c.in-Ok.header.line, c.in-Ok.header.column) =
    record {
      some = sym c.next_line.ensures.found ∙ c.if-not-next_line.false;
      opens = c.next_line.ensures.left;
      header = c.in-Ok.ensures.header;
      later = c.read_header.ensures.later;
      last = c.read_header.ensures.end;
    } in
    let first = second_first (behind_graph c.args.due c.args.graph.now) _ _ _ _ _ _ o
    c.in-Ok.ensures.clean in
    rw (first, c.in-Ok-read_cert.ensures.clean, ← c.in-Ok-read_cert.ensures.behind)
    c.in-Err-read_nothing.ensures.err
