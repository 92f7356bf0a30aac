use Rattle.mc_model.proofs.Refutation.{stuck}
use Rattle.mc_model.proofs.laws.stuck_sets_exclude_causal_flows.Goals as goal

pub returns : goal.returns
returns c = stuck
