use Rattle.std.proofs.Common.{◌∙◌, sym, arith}
use Rattle.mc_model.specs.Graph.{size}
use Rattle.mc_model.specs.Numbers.{is_member}
use Rattle.mc_cert.specs.StuckRules.{has_one_inside}
use Rattle.mc_cert.proofs.ListTests.{number_found, no_number}
use Rattle.mc_cert.proofs.stuck.some_has_one_inside.Goals as goal

pub returns-then-has_one_inside : goal.returns-then-has_one_inside
returns-then-has_one_inside g c =
    let graph = c.args.g.now in
    let end = c.len-v-end.ensures.len in
    let below = c.vertices-test.true in
    number_found (has_one_inside graph (is_member c.args.set.now)) (size graph) c.vertices.v
    (omega arith)
    (sym c.has_one_inside.ensures ∙ c.if-has_one_inside.true)

pub returns : goal.returns
returns g c =
    let graph = c.args.g.now in
    let end = c.len-v-end.ensures.len in
    let past = c.vertices-test.false in
    no_number (has_one_inside graph (is_member c.args.set.now)) (size graph)
    (λ w l. c.vertices.invariant w (omega arith))
