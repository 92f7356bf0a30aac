use Rattle.std.proofs.Common.{◌∙◌, sym}
use Rattle.mc_cert.specs.FlowRules.{is_too_early}
use Rattle.mc_cert.proofs.ListTests.{any_found, any_step}
use Rattle.mc_cert.proofs.flow.has_early_member.Goals as goal

pub returns-then-is_too_early : goal.returns-then-is_too_early
returns-then-is_too_early g c =
    let graph = c.args.g.now in
    any_found (is_too_early graph c.args.f.now.rows
    (record { vertex = c.args.vertex; layer = c.args.layer; set = c.args.set.now }))
    c.args.set.now c.members.i c.get.result c.get.ensures.member
    (sym c.is_too_early.ensures ∙ c.if-is_too_early.true) c.members.invariant

pub members-preserved : goal.members-preserved
members-preserved g c =
    let graph = c.args.g.now in
    any_step (is_too_early graph c.args.f.now.rows
    (record { vertex = c.args.vertex; layer = c.args.layer; set = c.args.set.now }))
    c.args.set.now c.members.i c.get.result c.get.ensures.member
    (sym c.is_too_early.ensures ∙ c.if-is_too_early.false) c.members.invariant
