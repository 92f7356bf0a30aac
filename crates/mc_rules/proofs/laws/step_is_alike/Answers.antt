use Rattle.mc_model.specs.Ring.{ring}
use Rattle.mc_model.proofs.RingLemmas.{ring_laws}
use Rattle.mc_rules.proofs.FirstOutOfOrder.{step_alike}
use Rattle.mc_rules.proofs.laws.step_is_alike.Goals as goal

pub returns : goal.returns
returns c = λ half positive inputs rule place cs ds s o.
    step_alike (ring half) (ring_laws half positive) o inputs rule place cs ds s
