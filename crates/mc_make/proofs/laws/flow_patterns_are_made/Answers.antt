use Rattle.mc_make.proofs.MadePatterns.{made_from}
use Rattle.mc_make.proofs.laws.flow_patterns_are_made.Goals as goal

pub returns : goal.returns
returns c = made_from c.graphs_keep_zero_branch.ensures
