use Rattle.mc_make.proofs.ChosenFlows.{chosen_depth_least}
use Rattle.mc_make.proofs.laws.chosen_flows_are_least_deep.Goals as goal

pub returns : goal.returns
returns c = chosen_depth_least
