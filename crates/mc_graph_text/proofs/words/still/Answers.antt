use Rattle.std.proofs.Common.{sym, ◌∙◌}
use Rattle.mc_graph_text.proofs.NameRules.{still_clean, still_measured}
use Rattle.mc_graph_text.proofs.words.still.Goals as goal

pub returns-then-has_angle-clause-err : goal.returns-then-has_angle-clause-err
returns-then-has_angle-clause-err g c = λ s e.
    let known = rw c.names.ensures.names at c.in-Ok.ensures.clean in
    let place = rw c.names.ensures.names at c.in-Ok.ensures.place in
    still_measured _ s c.args.graph.now c.args.word.now c.in-Ok.number e
    (record { known = known; place = place }) (sym c.has_angle.ensures ∙ c.if-has_angle.true)

pub returns-else-has_angle-clause-clean : goal.returns-else-has_angle-clause-clean
returns-else-has_angle-clause-clean g c = λ s e.
    let known = rw c.names.ensures.names at c.in-Ok.ensures.clean in
    let place = rw c.names.ensures.names at c.in-Ok.ensures.place in
    still_clean _ s c.args.graph.now c.args.word.now c.in-Ok.number e
    (record { known = known; place = place }) (sym c.has_angle.ensures ∙ c.if-has_angle.false)
