use Rattle.mc_graph.specs.Refuters.{RefuterLine}
use Rattle.mc_graph.proofs.OwnVertices.{no_vertices}
use Rattle.mc_graph.proofs.refuter.Refuter.new.Goals as goal

pub invariant_of-result : goal.invariant_of-result
invariant_of-result c = rw c.new.ensures.items (no_vertices {A = RefuterLine} (λ r. r.vertex))
