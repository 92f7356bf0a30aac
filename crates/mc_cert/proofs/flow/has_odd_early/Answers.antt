use Rattle.std.proofs.Common.{◌∙◌, sym, arith}
use Rattle.mc_model.specs.Graph.{size}
use Rattle.mc_cert.specs.FlowRules.{odd_early}
use Rattle.mc_cert.proofs.ListTests.{number_found, no_number}
use Rattle.mc_cert.proofs.flow.has_odd_early.Goals as goal

pub returns-then-is_odd_early : goal.returns-then-is_odd_early
returns-then-is_odd_early g c =
    let graph = c.args.g.now in
    let end = c.len-v-end.ensures.len in
    let below = c.vertices-test.true in
    number_found (odd_early graph c.args.f.now.rows
    (record { vertex = c.args.vertex; layer = c.args.layer; set = c.args.set.now }))
    (size graph) c.vertices.v (omega arith)
    (sym c.is_odd_early.ensures ∙ c.if-is_odd_early.true)

pub returns : goal.returns
returns g c =
    let graph = c.args.g.now in
    let end = c.len-v-end.ensures.len in
    let past = c.vertices-test.false in
    no_number (odd_early graph c.args.f.now.rows
    (record { vertex = c.args.vertex; layer = c.args.layer; set = c.args.set.now })) (size graph)
    (λ w l. c.vertices.invariant w (omega arith))
