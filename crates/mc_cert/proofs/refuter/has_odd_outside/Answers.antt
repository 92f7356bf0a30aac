use Rattle.std.proofs.Common.{◌∙◌, sym, arith}
use Rattle.mc_model.specs.Graph.{size}
use Rattle.mc_graph.specs.Refuters.{refuted_in}
use Rattle.mc_cert.specs.RefuterRules.{odd_outside}
use Rattle.mc_cert.proofs.ListTests.{number_found, no_number}
use Rattle.mc_cert.proofs.refuter.has_odd_outside.Goals as goal

pub returns-then-is_odd_outside : goal.returns-then-is_odd_outside
returns-then-is_odd_outside g c =
    let graph = c.args.g.now in
    let end = c.len-v-end.ensures.len in
    let below = c.vertices-test.true in
    number_found (odd_outside graph (refuted_in c.args.r.now) c.args.set.now) (size graph)
    c.vertices.v (omega arith)
    (sym c.is_odd_outside.ensures ∙ c.if-is_odd_outside.true)

pub returns : goal.returns
returns g c =
    let graph = c.args.g.now in
    let end = c.len-v-end.ensures.len in
    let past = c.vertices-test.false in
    no_number (odd_outside graph (refuted_in c.args.r.now) c.args.set.now) (size graph)
    (λ w l. c.vertices.invariant w (omega arith))
