use Rattle.mc_pattern_text.proofs.Marked.{place-last}
use Rattle.mc_pattern_text.proofs.steps.take_prepared.Goals as goal

pub returns-in-Ok-clause-place : goal.returns-in-Ok-clause-place
returns-in-Ok-clause-place c =
    let added = c.in-Ok.ensures.added in
    let distinct = rw added at c.len-count.ensures.names.distinct in
    rw (added, c.in-Ok.ensures.number) (place-last c.args.names.now c.args.word.now distinct)
