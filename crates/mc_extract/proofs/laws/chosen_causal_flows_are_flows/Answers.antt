use Rattle.mc_extract.proofs.Rounds.{chosen_is_flow}
use Rattle.mc_extract.proofs.laws.chosen_causal_flows_are_flows.Goals as goal

pub returns : goal.returns
returns c = chosen_is_flow
