use Rattle.mc_make.proofs.ValidPatterns.{flow_patterns_valid}
use Rattle.mc_make.proofs.laws.flow_patterns_are_valid.Goals as goal

pub returns : goal.returns
returns c = flow_patterns_valid
