use Rattle.mc_make.proofs.OrderLists.{order_falls}
use Rattle.mc_make.proofs.laws.measuring_order_falls.Goals as goal

pub returns : goal.returns
returns c = order_falls
