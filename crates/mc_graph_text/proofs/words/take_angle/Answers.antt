use Rattle.std.proofs.Common.{ap, Err}
use Rattle.mc_graph_text.proofs.words.take_angle.Goals as goal

pub returns-in-Err-angle-clause-err : goal.returns-in-Err-angle-clause-err
returns-in-Err-angle-clause-err g c = λ free.
    let only = c.in-Err-angle.ensures.rules_only in
    let broken = (c.in-Err-angle.ensures.rule only.0).0 (ap Err only.1) in
    absurd (cc (free, broken))
