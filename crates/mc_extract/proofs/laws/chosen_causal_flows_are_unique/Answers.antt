use Rattle.mc_extract.proofs.Unique.{chosen_once}
use Rattle.mc_extract.proofs.laws.chosen_causal_flows_are_unique.Goals as goal

pub returns : goal.returns
returns c = chosen_once
