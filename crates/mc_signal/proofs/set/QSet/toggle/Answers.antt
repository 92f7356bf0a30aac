use Rattle.mc_model.proofs.SignalLemmas.{toggled_rising}
use Rattle.mc_signal.proofs.Members.{is_member-toggled}
use Rattle.mc_signal.proofs.set.QSet.toggle.Goals.{in-Ok-insert, in-Err-insert}
use Rattle.mc_signal.proofs.set.QSet.toggle.Goals as goal

pub invariant_of-self : goal.invariant_of-self
invariant_of-self c =
    let e = rw c.as_slice.ensures at c.in-Ok.ensures.1 in
    rw (c.remove.ensures.items, ← e)
    (toggled_rising c.args.q c.self.inside.members.items c.self.invariant)

pub invariant_of-self-in-Err : goal.invariant_of-self-in-Err
invariant_of-self-in-Err c =
    let e = rw c.as_slice.ensures at c.in-Err.ensures.1 in
    elim c.match-insert.branch [
      | in-Ok-insert w ↦
          rw (w.in-Ok-insert.ensures.ok, ← e)
          (toggled_rising c.args.q c.self.inside.members.items c.self.invariant)
      | in-Err-insert w ↦ rw w.in-Err-insert.ensures.err c.self.invariant
    ]

pub returns-in-Ok-clause-members : goal.returns-in-Ok-clause-members
returns-in-Ok-clause-members c p =
    let e = rw c.as_slice.ensures at c.in-Ok.ensures.1 in
    rw (c.remove.ensures.items, ← e, ← c.self.view_is)
    (is_member-toggled c.args.q c.self.inside.members.items p c.self.invariant)

pub returns-after-insert-clause-members : goal.returns-after-insert-clause-members
returns-after-insert-clause-members c =
    let e = rw c.as_slice.ensures at c.in-Err.ensures.1 in
    elim c.match-insert.branch [
      | in-Ok-insert w ↦
          rw w.result-is (λ p.
          rw (w.in-Ok-insert.ensures.ok, ← e, ← c.self.view_is)
          (is_member-toggled c.args.q c.self.inside.members.items p c.self.invariant))
      | in-Err-insert w ↦ rw w.result-is tt
    ]
