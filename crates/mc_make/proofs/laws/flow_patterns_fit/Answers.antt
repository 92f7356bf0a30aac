use Rattle.mc_make.proofs.FlowSizes.{flow_pattern_fits}
use Rattle.mc_make.proofs.laws.flow_patterns_fit.Goals as goal

pub returns : goal.returns
returns c = flow_pattern_fits
