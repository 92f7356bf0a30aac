use Rattle.mc_model.specs.Ring.{ring}
use Rattle.mc_model.proofs.RingLemmas.{ring_laws}
use Rattle.mc_make.proofs.Determinism.{flow_branches}
use Rattle.mc_make.proofs.laws.flow_patterns_are_deterministic.Goals as goal

pub returns : goal.returns
returns c = λ half positive. flow_branches (ring half) (ring_laws half positive)
