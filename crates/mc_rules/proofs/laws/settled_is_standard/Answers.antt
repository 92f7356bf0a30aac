use Rattle.mc_rules.proofs.StandardReached.{standard_where_settled}
use Rattle.mc_rules.proofs.laws.settled_is_standard.Goals as goal

pub returns : goal.returns
returns c = standard_where_settled
