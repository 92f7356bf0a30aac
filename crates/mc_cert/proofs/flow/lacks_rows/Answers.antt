use Rattle.std.proofs.Common.{◌∙◌, sym, arith}
use Rattle.mc_model.specs.Graph.{size}
use Rattle.mc_cert.specs.FlowRules.{lacks_row}
use Rattle.mc_cert.proofs.ListTests.{number_found, no_number}
use Rattle.mc_cert.proofs.flow.lacks_rows.Goals as goal

pub returns-then-lacks_row : goal.returns-then-lacks_row
returns-then-lacks_row g c =
    let graph = c.args.g.now in
    let end = c.len-v-end.ensures.len in
    let below = c.vertices-test.true in
    number_found (lacks_row graph c.args.f.now.rows) (size graph) c.vertices.v (omega arith)
    (sym c.lacks_row.ensures ∙ c.if-lacks_row.true)

pub returns : goal.returns
returns g c =
    let graph = c.args.g.now in
    let end = c.len-v-end.ensures.len in
    let past = c.vertices-test.false in
    no_number (lacks_row graph c.args.f.now.rows) (size graph)
    (λ w l. c.vertices.invariant w (omega arith))
