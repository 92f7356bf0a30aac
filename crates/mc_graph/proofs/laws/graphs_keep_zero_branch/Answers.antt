use Rattle.mc_graph.proofs.KeptBranch.{graphs_keep}
use Rattle.mc_graph.proofs.laws.graphs_keep_zero_branch.Goals as goal

pub returns : goal.returns
returns c =
    graphs_keep c.standard_is_alike.ensures c.standard_keeps_zero_branch.ensures
