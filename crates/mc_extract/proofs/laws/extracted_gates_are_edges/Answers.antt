use Rattle.mc_extract.proofs.GateCounts.{gates_are_edges, few_edges}
use Rattle.mc_extract.proofs.laws.extracted_gates_are_edges.Goals as goal

pub returns : goal.returns
returns c = λ half g valid next layer flow.
    (gates_are_edges g next layer valid flow half, few_edges g valid)
