use Rattle.std.proofs.Common.{arith}
use Rattle.mc_extract.proofs.Counts.{few_edges}
use Rattle.mc_extract.proofs.count.gates_to_extract.Goals as goal

pub overflow_add-result : goal.overflow_add-result
overflow_add-result g c =
    let few = few_edges c.args.g.now c.len-count.ensures.valid.open_graph.names.few
    c.edge_count-edges.ensures.up in
    let same = c.edge_count-edges.ensures.count in
    let fixed = c.count_fixed.ensures.few in
    omega arith
