use Rattle.mc_model.proofs.Refutation.{refuted}
use Rattle.mc_model.proofs.laws.refuters_exclude_flows.Goals as goal

pub returns : goal.returns
returns c = refuted
