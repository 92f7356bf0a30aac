use Rattle.std.proofs.Common.{◌∙◌, sym, arith}
use Rattle.mc_model.specs.Graph.{size}
use Rattle.mc_cert.specs.BoundRules.{lacks_set}
use Rattle.mc_cert.proofs.ListTests.{number_found, no_number}
use Rattle.mc_cert.proofs.bound.lacks_sets.Goals as goal

pub returns-then-lacks_set : goal.returns-then-lacks_set
returns-then-lacks_set g c =
    let graph = c.args.g.now in
    let end = c.len-u-end.ensures.len in
    let below = c.vertices-test.true in
    number_found (lacks_set c.args.b.now.layers c.args.b.now.rows c.args.k) (size graph) c.vertices.u
    (omega arith)
    (sym c.lacks_set.ensures ∙ c.if-lacks_set.true)

pub returns : goal.returns
returns g c =
    let graph = c.args.g.now in
    let end = c.len-u-end.ensures.len in
    let past = c.vertices-test.false in
    no_number (lacks_set c.args.b.now.layers c.args.b.now.rows c.args.k) (size graph)
    (λ w l. c.vertices.invariant w (omega arith))
