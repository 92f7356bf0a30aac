use Rattle.std.proofs.Common.{refl, sym, ◌∙◌, arith}
use Rattle.mc_derivations.proofs.CutLists.{same_more, same_all}
use Rattle.mc_trace.proofs.same.are_members.Goals as goal

pub members-init : goal.members-init
members-init c = refl

pub members-preserved : goal.members-preserved
members-preserved c =
    same_more _ _ c.members.i c.get.result c.get-in-members.result c.get.ensures.member
    c.get-in-members.ensures.member c.if-get.false c.members.invariant

pub returns : goal.returns
returns c =
    let end = c.members-test.false in
    let long = c.len-i-end.ensures.len in
    same_all c.args.a.now c.args.b.now c.members.i (omega arith)
    (sym c.len.ensures.len ∙ c.if-len.false ∙ c.len-2.ensures.len) c.members.invariant
