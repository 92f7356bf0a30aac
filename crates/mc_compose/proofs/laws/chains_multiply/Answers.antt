use Rattle.mc_model.specs.Ring.{ring, product}
use Rattle.mc_model.proofs.RingLemmas.{ring_laws, commutative_ring}
use Rattle.mc_compose.proofs.ProductLaws.{ring_product}
use Rattle.mc_compose.proofs.ChainMaps as Chains
use Rattle.mc_compose.proofs.laws.chains_multiply.Goals as goal

pub returns : goal.returns
returns c = λ half positive.
    Chains.chains_multiply (ring half) (ring_laws half positive) product
    (ring_product (commutative_ring half positive))
