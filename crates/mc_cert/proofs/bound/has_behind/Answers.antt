use Rattle.std.proofs.Common.{◌∙◌, sym}
use Rattle.mc_cert.specs.BoundRules.{is_behind}
use Rattle.mc_cert.proofs.ListTests.{any_found, any_step}
use Rattle.mc_cert.proofs.bound.has_behind.Goals as goal

pub returns-then-is_behind : goal.returns-then-is_behind
returns-then-is_behind g c =
    let graph = c.args.g.now in
    any_found (is_behind graph c.args.b.now.layers c.args.k) c.args.set.now c.members.i
    c.get.result c.get.ensures.member
    (sym c.is_behind.ensures ∙ c.if-is_behind.true) c.members.invariant

pub members-preserved : goal.members-preserved
members-preserved g c =
    let graph = c.args.g.now in
    any_step (is_behind graph c.args.b.now.layers c.args.k) c.args.set.now c.members.i
    c.get.result c.get.ensures.member
    (sym c.is_behind.ensures ∙ c.if-is_behind.false) c.members.invariant
