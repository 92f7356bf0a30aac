use Rattle.std.proofs.Common.{ap}
use Rattle.mc_model.specs.Graph.{OpenGraph}
use Rattle.mc_graph_text.proofs.NameReads.{all_settled, each_settled, same_truth}
use Rattle.mc_graph_text.proofs.steps.settles_each.Goals as goal

pub returns : goal.returns
returns g c = λ s e are.
    let numbers = c.args.numbers.now in
    let names = ap (λ (h : OpenGraph). h.names) e in
    let valid = rw (c.names.ensures.names, names) at c.len-count.ensures.names in
    let each = rw e at c.settles.ensures in
    same_truth _ _ (λ has. all_settled _ s numbers valid.distinct are (each.0 has))
    (λ all. each.1 (each_settled _ s numbers valid.distinct are all))
