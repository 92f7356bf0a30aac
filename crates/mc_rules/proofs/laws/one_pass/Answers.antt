use Rattle.mc_rules.proofs.OnePass as pass
use Rattle.mc_rules.proofs.laws.one_pass.Goals as goal

pub returns : goal.returns
returns c = pass.one_pass
