use Rattle.mc_pattern_text.proofs.Marked.{all_settled, each_settled, same_truth}
use Rattle.mc_pattern_text.proofs.steps.settles_each.Goals as goal

pub returns : goal.returns
returns c = λ measured listed are numbers.
    let names = c.args.names.now in
    let numbers' = c.args.numbers.now in
    let distinct = c.len.ensures.names.distinct in
    let each = rw c.len.ensures.len at c.settles.ensures in
    same_truth _ _
    (λ has. all_settled names measured listed _ numbers' distinct are numbers (each.0 has))
    (λ all. each.1 (each_settled names measured listed _ numbers' distinct are numbers all))
