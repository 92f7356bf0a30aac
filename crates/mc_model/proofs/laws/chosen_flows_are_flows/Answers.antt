use Rattle.mc_model.proofs.ChosenFlows.{chosen_is_flow}
use Rattle.mc_model.proofs.laws.chosen_flows_are_flows.Goals as goal

pub returns : goal.returns
returns c = chosen_is_flow
