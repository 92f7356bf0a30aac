use Rattle.mc_model.proofs.Refutation.{counted_twice}
use Rattle.mc_model.proofs.laws.edges_count_twice.Goals as goal

pub returns : goal.returns
returns c = counted_twice
