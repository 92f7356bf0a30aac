use Rattle.mc_make.proofs.FlowScale.{flow_scale}
use Rattle.mc_make.proofs.laws.flow_patterns_keep_scale.Goals as goal

pub returns : goal.returns
returns c = flow_scale
