use Rattle.std.proofs.Common.{◌∙◌, sym, refl}
use Rattle.mc_lex.specs.Given.{item_of}
use Rattle.mc_document.proofs.Turns.{IsTold, told}
use Rattle.mc_document.proofs.turn.turn_of.Goals as goal

pub returns-else-are_sixteenths-clause-half : goal.returns-else-are_sixteenths-clause-half
returns-else-are_sixteenths-clause-half c =
    let h : IsTold c.args.text.now c.new-words.result c.next_line.new.self c.next-kind.new.self
    c.next-version.new.self c.next-turn.new.self (item_of c.next-turn.result)
    (item_of c.next-number.result) =
    record {
      begins = c.new-words.ensures.lines;
      opens = c.next_line.ensures.left;
      one = c.next-kind.ensures.left;
      two = c.next-version.ensures.left;
      three = c.next-turn.ensures.left;
      turns = c.next-turn.ensures.token;
      numbers = c.next-number.ensures.token;
    } in
    sym (told c.args.text.now _ _ _ _ _ _ _ h
    ∙ rw (← c.are_sixteenths.ensures, c.if-are_sixteenths.false) refl)
