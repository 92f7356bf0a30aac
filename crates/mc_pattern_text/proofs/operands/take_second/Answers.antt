use Rattle.std.proofs.Common.{Some, ap, ◌∙◌}
use Rattle.mc_pattern_text.proofs.Marked.{second_name_same}
use Rattle.mc_pattern_text.proofs.operands.take_second.Goals as goal

pub returns-then-number-first-clause-err : goal.returns-then-number-first-clause-err
returns-then-number-first-clause-err c = λ measured name are is.
    second_name_same c.args.names.now measured name c.args.word.now c.args.first is
    (c.in-Ok.ensures.clean measured are) (c.in-Ok.ensures.place ∙ ap Some c.if-number-first.true)
