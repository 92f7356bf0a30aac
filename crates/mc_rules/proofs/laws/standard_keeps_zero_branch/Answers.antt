use Rattle.mc_model.specs.Ring.{ring}
use Rattle.mc_model.proofs.RingLemmas.{ring_laws}
use Rattle.mc_rules.proofs.WithoutConstants.{zero_branch_of_standard}
use Rattle.mc_rules.proofs.laws.standard_keeps_zero_branch.Goals as goal

pub returns : goal.returns
returns c = λ half positive. zero_branch_of_standard (ring half) (ring_laws half positive)
