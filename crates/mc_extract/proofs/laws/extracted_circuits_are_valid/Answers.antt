use Rattle.mc_extract.proofs.ValidCircuits.{extracted_valid}
use Rattle.mc_extract.proofs.laws.extracted_circuits_are_valid.Goals as goal

pub returns : goal.returns
returns c = λ half g valid next layer flow. extracted_valid g next layer valid flow half
