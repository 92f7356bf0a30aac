use Rattle.mc_signal.proofs.Values.{parity-replaced_sum}
use Rattle.mc_signal.proofs.set.QSet.replaced.Goals as goal

pub returns-clause-parity : goal.returns-clause-parity
returns-clause-parity c o b =
    rw (c.in_ok-set.ensures.sum, c.in_ok-toggle.ensures.ok, c.in_ok-rest.ensures, ← c.self.view_is)
    (parity-replaced_sum c.args.q b c.self.inside.members.items c.args.by.now o c.self.invariant
    (rw c.self.view_is c.requires.0))
