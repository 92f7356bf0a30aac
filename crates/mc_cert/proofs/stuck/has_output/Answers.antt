use Rattle.std.proofs.Common.{◌∙◌, sym}
use Rattle.mc_model.specs.Graph.{is_output}
use Rattle.mc_cert.proofs.ListTests.{any_found, any_step}
use Rattle.mc_cert.proofs.stuck.has_output.Goals as goal

pub returns-then-is_output : goal.returns-then-is_output
returns-then-is_output g c =
    let graph = c.args.g.now in
    any_found (is_output graph) c.args.set.now c.members.i
    c.get.result c.get.ensures.member
    (sym c.is_output.ensures ∙ c.if-is_output.true) c.members.invariant

pub members-preserved : goal.members-preserved
members-preserved g c =
    let graph = c.args.g.now in
    any_step (is_output graph) c.args.set.now c.members.i
    c.get.result c.get.ensures.member
    (sym c.is_output.ensures ∙ c.if-is_output.false) c.members.invariant
