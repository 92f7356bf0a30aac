use Rattle.std.proofs.Common.{arith}
use Rattle.std.proofs.lemmas.Bool.{lt-ltb, le-ltb}
use Rattle.mc_model.specs.Graph.{is_input}
use Rattle.mc_cert.proofs.ListTests.{any_found, any_step}
use Rattle.mc_cert.proofs.odd.has_input.Goals as goal

pub returns-then-get-inputs : goal.returns-then-get-inputs
returns-then-get-inputs g c =
    let graph = c.args.g.now in
    let few = c.inputs.ensures in
    let test = c.if-get-inputs.true in
    any_found (is_input graph) c.args.set.now c.members.i c.get.result c.get.ensures.member
    (lt-ltb c.get.result graph.inputs (omega arith)) c.members.invariant

pub members-preserved : goal.members-preserved
members-preserved g c =
    let graph = c.args.g.now in
    let few = c.inputs.ensures in
    let test = c.if-get-inputs.false in
    any_step (is_input graph) c.args.set.now c.members.i c.get.result c.get.ensures.member
    (le-ltb c.get.result graph.inputs (omega arith)) c.members.invariant
