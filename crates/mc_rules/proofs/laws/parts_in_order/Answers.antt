use Rattle.mc_rules.proofs.PartsInOrder as order
use Rattle.mc_rules.proofs.laws.parts_in_order.Goals as goal

pub returns : goal.returns
returns c = order.parts_in_order
