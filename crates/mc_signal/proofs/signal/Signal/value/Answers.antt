use Rattle.mc_model.specs.Bits.{bits_of}
use Rattle.mc_signal.proofs.Values.{value-of}
use Rattle.mc_signal.proofs.signal.Signal.value.Goals as goal

pub returns : goal.returns
returns c =
    rw (← c.self.view_is)
    (value-of c.self.inside.members c.self.inside.constant c.parity_of.result
    (bits_of c.args.outcomes.now) (rw c.as_slice.ensures.members at c.parity_of.ensures))
