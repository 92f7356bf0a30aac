use Rattle.std.proofs.Common.{arith}
use Rattle.mc_extract.proofs.FinderLemmas.{at_end_alike, at_end_all}
use Rattle.mc_extract.proofs.finder.search.Goals as goal

pub returns-then-are_left_alike : goal.returns-then-are_left_alike
returns-then-are_left_alike g c =
    let same = rw (c.deref-in-rounds.ensures.value, c.deref-in-rounds-2.ensures.value) at
    c.are_left_alike.ensures c.if-are_left_alike.true in
    at_end_alike c.args.g.now c.rounds.rounds c.rounds.found.items
    c.in_ok-later.later.items c.rounds.invariant c.in_ok-later.ensures same

pub returns : goal.returns
returns g c =
    let ended = c.rounds-test.false in
    let most = c.rounds.auto.rounds-end in
    let size = c.len-rounds-end.ensures.len in
    at_end_all c.args.g.now c.rounds.rounds c.rounds.found.items
    c.rounds.invariant (omega arith)
