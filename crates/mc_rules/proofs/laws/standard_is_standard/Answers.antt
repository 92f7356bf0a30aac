use Rattle.mc_rules.proofs.DerivationsKeep.{standardised}
use Rattle.mc_rules.proofs.laws.standard_is_standard.Goals as goal

pub returns : goal.returns
returns c = standardised
