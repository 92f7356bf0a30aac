use Rattle.mc_signal.proofs.Values.{flipped}
use Rattle.mc_signal.proofs.signal.Signal.flip.Goals as goal

pub returns-clause-signal : goal.returns-clause-signal
returns-clause-signal c =
    rw (← c.self.view_is) (flipped c.self.inside.members c.self.inside.constant)
