use Rattle.std.proofs.Common.{refl}
use Rattle.mc_model.specs.Signals.{toggled, toggled_all}
use Rattle.mc_make.proofs.make.signal_of.Goals as goal

pub returns : goal.returns
unfolding toggled toggled_all
returns c = rw (c.in_ok-toggle.ensures.ok, c.empty-signal.ensures) refl
