use Rattle.mc_model.proofs.SignalLemmas.{toggled_all_rising}
use Rattle.mc_signal.proofs.Members.{is_member-toggled_all}
use Rattle.mc_signal.proofs.set.QSet.sum.Goals as goal

pub invariant_of-result : goal.invariant_of-result
invariant_of-result c =
    rw (c.in-Ok.ensures, c.as_slice.ensures, c.as_slice-2.ensures)
    (toggled_all_rising c.self.inside.members.items c.other.inside.members.items c.other.invariant)

pub returns-in-Ok-clause-members : goal.returns-in-Ok-clause-members
returns-in-Ok-clause-members c q =
    rw (
      c.in-Ok.ensures,
      c.as_slice.ensures,
      c.as_slice-2.ensures,
      ← c.self.view_is,
      ← c.other.view_is,
    )
    (is_member-toggled_all c.self.inside.members.items c.other.inside.members.items q
    c.self.invariant
    c.other.invariant)
