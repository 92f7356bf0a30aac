use Rattle.mc_model.specs.Ring.{ring}
use Rattle.mc_model.proofs.RingLemmas.{ring_laws}
use Rattle.mc_shift.proofs.Shifting.{shift_keeps}
use Rattle.mc_shift.proofs.laws.shift_keeps_maps.Goals as goal

pub returns : goal.returns
returns c = λ half positive. shift_keeps (ring half) (ring_laws half positive)
