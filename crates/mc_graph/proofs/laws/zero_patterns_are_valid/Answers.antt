use Rattle.mc_graph.proofs.FollowingCommands.{zero_patterns_valid}
use Rattle.mc_graph.proofs.laws.zero_patterns_are_valid.Goals as goal

pub returns : goal.returns
returns c = zero_patterns_valid
