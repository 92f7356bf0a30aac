use Rattle.mc_graph_text.proofs.NameRules.{output_clean, output_twice}
use Rattle.mc_graph_text.proofs.words.take_output.Goals as goal

pub returns-then-has-clause-err : goal.returns-then-has-clause-err
returns-then-has-clause-err g c = λ s e are.
    output_twice _ s c.args.graph.now _ c.args.word.now c.in-Ok.number e are
    (c.in-Ok.ensures.clean s e) c.in-Ok.ensures.place
    (cc (c.as_slice.ensures.value, c.has.ensures, c.if-has.true))

pub returns-in-Ok-push-clause-clean : goal.returns-in-Ok-push-clause-clean
returns-in-Ok-push-clause-clean g c = λ s e are.
    output_clean _ s c.args.graph.now _ c.args.word.now c.in-Ok.number e are
    (c.in-Ok.ensures.clean s e) c.in-Ok.ensures.place
    (cc (c.as_slice.ensures.value, c.has.ensures, c.if-has.false))
