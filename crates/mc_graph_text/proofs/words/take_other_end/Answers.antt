use Rattle.std.proofs.Common.{ap, Err}
use Rattle.mc_graph_text.proofs.NameRules.{other_same, other_clean, other_joined}
use Rattle.mc_graph_text.proofs.words.take_other_end.Goals as goal

pub returns-then-first-number-clause-err : goal.returns-then-first-number-clause-err
returns-then-first-number-clause-err g c = λ s name e is.
    let known = rw c.names.ensures.names at c.in-Ok.ensures.clean in
    let place = rw c.names.ensures.names at c.in-Ok.ensures.place in
    other_same _ s c.args.graph.now name c.args.word.now c.args.first c.in-Ok.number e is
    (record { known = known; place = place }) c.if-first-number.true

pub returns-in-Ok-edge-clause-clean : goal.returns-in-Ok-edge-clause-clean
returns-in-Ok-edge-clause-clean g c = λ s name e is.
    let known = rw c.names.ensures.names at c.in-Ok.ensures.clean in
    let place = rw c.names.ensures.names at c.in-Ok.ensures.place in
    other_clean _ s c.args.graph.now name c.args.word.now c.args.first c.in-Ok.number e is
    (record { known = known; place = place }) c.if-first-number.false c.in-Ok-edge.ensures.allowed

pub returns-in-Err-edge-clause-err : goal.returns-in-Err-edge-clause-err
returns-in-Err-edge-clause-err g c = λ s name e is.
    let known = rw c.names.ensures.names at c.in-Ok.ensures.clean in
    let place = rw c.names.ensures.names at c.in-Ok.ensures.place in
    let only = c.in-Err-edge.ensures.rules_only in
    let broken = (c.in-Err-edge.ensures.rule only.0).0 (ap Err only.1) in
    other_joined _ s c.args.graph.now name c.args.word.now c.args.first c.in-Ok.number only.0 e is
    (record { known = known; place = place }) c.if-first-number.false broken
