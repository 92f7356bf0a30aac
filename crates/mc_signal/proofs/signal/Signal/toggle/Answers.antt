use Rattle.std.proofs.Common.{refl}
use Rattle.mc_model.specs.Signals.{toggled_all}
use Rattle.mc_signal.proofs.signal.Signal.toggle.Goals as goal

pub returns-clause-ok : goal.returns-clause-ok
unfolding toggled_all
returns-clause-ok c = rw (c.in_ok-toggle.ensures.ok, ← c.self.view_is) refl
