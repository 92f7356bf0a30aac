use Rattle.mc_model.specs.Ring.{ring}
use Rattle.mc_model.proofs.RingLemmas.{ring_laws}
use Rattle.mc_model.proofs.AmplitudeLemmas.{after_last}
use Rattle.mc_model.proofs.laws.amplitudes_by_last_command.Goals as goal

pub returns : goal.returns
returns c = λ half positive. after_last (ring half) (ring_laws half positive)
