use Rattle.mc_model.specs.Ring.{ring}
use Rattle.mc_model.proofs.RingLemmas.{ring_laws}
use Rattle.mc_extract.proofs.Extraction.{extracted_keeps_table}
use Rattle.mc_extract.proofs.laws.extracted_circuit_has_table.Goals as goal

pub returns : goal.returns
returns c = λ half positive. extracted_keeps_table (ring half) (ring_laws half positive)
