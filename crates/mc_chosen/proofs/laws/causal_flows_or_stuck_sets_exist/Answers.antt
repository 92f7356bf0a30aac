use Rattle.mc_chosen.proofs.CausalChosen.{one_causal}
use Rattle.mc_chosen.proofs.laws.causal_flows_or_stuck_sets_exist.Goals as goal

pub returns : goal.returns
returns c = one_causal
