use Rattle.mc_chosen.proofs.Chosen.{one_exists}
use Rattle.mc_chosen.proofs.laws.flows_or_refuters_exist.Goals as goal

pub returns : goal.returns
returns c = one_exists
