use Rattle.std.proofs.Common.{arith}
use Rattle.mc_names.proofs.FreshNames.{fresh_is_fresh}
use Rattle.mc_names.proofs.laws.fresh_names_are_fresh.Goals as goal

pub returns : goal.returns
returns c = λ names h. let few = h.few in fresh_is_fresh names (omega arith)
