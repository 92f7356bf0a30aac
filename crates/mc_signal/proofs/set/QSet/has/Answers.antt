use Rattle.std.proofs.Common.{sym, ◌∙◌}
use Rattle.mc_signal.proofs.Members.{is_member-small}
use Rattle.mc_signal.proofs.set.QSet.has.Goals as goal

pub returns-clause-small : goal.returns-clause-small
returns-clause-small c listed =
    let member = sym c.is_listed.ensures ∙ listed in
    is_member-small c.args.q c.args.self.now c.as_slice.ensures.small
    (rw c.as_slice.ensures.members at member)
