use Rattle.std.proofs.Common.{◌∙◌, arith}
use Rattle.std.proofs.lemmas.List.{drop_all}
use Rattle.mc_lex.proofs.Ends.{end_is}
use Rattle.mc_lex.proofs.part.end_of_text.Goals as goal

pub returns : goal.returns
returns c =
    let none = drop_all c.loop-b.b-index c.args.text.now (omega arith) in
    let counted = rw none at c.loop-b.invariant.same in
    counted ∙ end_is 1 1 c.args.text.now
