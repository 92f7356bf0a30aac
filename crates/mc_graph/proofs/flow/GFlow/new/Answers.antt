use Rattle.mc_graph.specs.Flows.{FlowLine}
use Rattle.mc_graph.proofs.OwnVertices.{no_vertices}
use Rattle.mc_graph.proofs.flow.GFlow.new.Goals as goal

pub invariant_of-result : goal.invariant_of-result
invariant_of-result c = rw c.new.ensures.items (no_vertices {A = FlowLine} (λ r. r.vertex))
