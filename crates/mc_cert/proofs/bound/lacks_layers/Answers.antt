use Rattle.std.proofs.Common.{◌∙◌, sym, arith}
use Rattle.mc_model.specs.Graph.{size}
use Rattle.mc_cert.specs.BoundRules.{lacks_layer}
use Rattle.mc_cert.proofs.ListTests.{number_found, no_number}
use Rattle.mc_cert.proofs.bound.lacks_layers.Goals as goal

pub returns-then-lacks_layer : goal.returns-then-lacks_layer
returns-then-lacks_layer g c =
    let graph = c.args.g.now in
    let end = c.len-v-end.ensures.len in
    let below = c.vertices-test.true in
    number_found (lacks_layer graph c.args.b.now.layers) (size graph) c.vertices.v
    (omega arith)
    (sym c.lacks_layer.ensures ∙ c.if-lacks_layer.true)

pub returns : goal.returns
returns g c =
    let graph = c.args.g.now in
    let end = c.len-v-end.ensures.len in
    let past = c.vertices-test.false in
    no_number (lacks_layer graph c.args.b.now.layers) (size graph)
    (λ w l. c.vertices.invariant w (omega arith))
