use Rattle.mc_make.proofs.ChosenFlows.{depth_within_layers}
use Rattle.mc_make.proofs.laws.dependence_within_layers.Goals as goal

pub returns : goal.returns
returns c = depth_within_layers
