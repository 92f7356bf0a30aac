use Rattle.mc_rules.proofs.StandardAlike.{pattern_alike}
use Rattle.mc_rules.proofs.laws.standard_is_alike.Goals as goal

pub returns : goal.returns
returns c = pattern_alike
