use Rattle.std.proofs.Common.{ap, Err}
use Rattle.mc_graph_text.proofs.NameRules.{x_clean, x_twice}
use Rattle.mc_graph_text.proofs.words.take_fixed_x.Goals as goal

pub returns-in-Ok-fix_x-clause-clean : goal.returns-in-Ok-fix_x-clause-clean
returns-in-Ok-fix_x-clause-clean g c = λ s e.
    x_clean _ s c.args.graph.now c.args.word.now c.in-Ok.number e (c.in-Ok.ensures.clean s e)
    c.in-Ok.ensures.place c.in-Ok-fix_x.ensures.allowed

pub returns-in-Err-fix_x-clause-err : goal.returns-in-Err-fix_x-clause-err
returns-in-Err-fix_x-clause-err g c = λ s e.
    let only = c.in-Err-fix_x.ensures.rules_only in
    let broken = (c.in-Err-fix_x.ensures.rule only.0).0 (ap Err only.1) in
    x_twice _ s c.args.graph.now c.args.word.now c.in-Ok.number only.0 e
    (c.in-Ok.ensures.clean s e) c.in-Ok.ensures.place broken
