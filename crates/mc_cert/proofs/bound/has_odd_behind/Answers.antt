use Rattle.std.proofs.Common.{◌∙◌, sym, arith}
use Rattle.mc_model.specs.Graph.{size}
use Rattle.mc_cert.specs.BoundRules.{odd_behind}
use Rattle.mc_cert.proofs.ListTests.{number_found, no_number}
use Rattle.mc_cert.proofs.bound.has_odd_behind.Goals as goal

pub returns-then-is_odd_behind : goal.returns-then-is_odd_behind
returns-then-is_odd_behind g c =
    let graph = c.args.g.now in
    let end = c.len-v-end.ensures.len in
    let below = c.vertices-test.true in
    number_found (odd_behind graph c.args.b.now.layers c.args.k c.args.set.now) (size graph) c.vertices.v
    (omega arith)
    (sym c.is_odd_behind.ensures ∙ c.if-is_odd_behind.true)

pub returns : goal.returns
returns g c =
    let graph = c.args.g.now in
    let end = c.len-v-end.ensures.len in
    let past = c.vertices-test.false in
    no_number (odd_behind graph c.args.b.now.layers c.args.k c.args.set.now) (size graph)
    (λ w l. c.vertices.invariant w (omega arith))
