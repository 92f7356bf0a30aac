use Rattle.mc_model.specs.Ring.{ring}
use Rattle.mc_model.proofs.RingLemmas.{ring_laws}
use Rattle.mc_make.proofs.ZeroBranch.{zero_branches}
use Rattle.mc_make.proofs.laws.zero_branch_of_flow_pattern.Goals as goal

pub returns : goal.returns
returns c = λ half positive. zero_branches (ring half) (ring_laws half positive)
