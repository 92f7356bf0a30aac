use Rattle.std.proofs.Common.{◌∙◌, sym, ap, not}
use Rattle.mc_graph.specs.Refuters.{refuted_in}
use Rattle.mc_cert.proofs.ListTests.{any_found, any_step}
use Rattle.mc_cert.proofs.refuter.has_outsider.Goals as goal

pub returns-then-not-has : goal.returns-then-not-has
returns-then-not-has c =
    any_found (λ v. not (refuted_in c.args.r.now v)) c.args.set.now c.members.i c.get.result
    c.get.ensures.member
    (ap not (sym c.has.ensures ∙ c.if-not-has.true)) c.members.invariant

pub members-preserved : goal.members-preserved
members-preserved c =
    any_step (λ v. not (refuted_in c.args.r.now v)) c.args.set.now c.members.i c.get.result
    c.get.ensures.member
    (ap not (sym c.has.ensures ∙ c.if-not-has.false)) c.members.invariant
