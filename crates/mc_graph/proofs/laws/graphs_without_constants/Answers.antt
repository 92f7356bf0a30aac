use Rattle.mc_graph.proofs.PlainGraphs.{without_constants}
use Rattle.mc_graph.proofs.laws.graphs_without_constants.Goals as goal

pub returns : goal.returns
returns c = without_constants
