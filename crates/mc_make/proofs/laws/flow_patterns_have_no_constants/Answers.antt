use Rattle.mc_make.proofs.ChosenFlows.{flow_pattern_free}
use Rattle.mc_make.proofs.laws.flow_patterns_have_no_constants.Goals as goal

pub returns : goal.returns
returns c = flow_pattern_free
