use Rattle.mc_extract.proofs.CircuitScale.{extracted_scale}
use Rattle.mc_extract.proofs.laws.extracted_circuit_scale.Goals as goal

pub returns : goal.returns
returns c = λ half g valid next layer flow. extracted_scale g next layer valid flow half
