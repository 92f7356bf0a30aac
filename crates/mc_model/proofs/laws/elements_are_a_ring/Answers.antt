use Rattle.mc_model.proofs.RingLemmas.{commutative_ring}
use Rattle.mc_model.proofs.laws.elements_are_a_ring.Goals as goal

pub returns : goal.returns
returns c = commutative_ring
