use Rattle.std.proofs.Common.{arith}
use Rattle.mc_extract.proofs.ChainLists.{place_found, place_missing}
use Rattle.mc_extract.proofs.wiring.place_of.Goals as goal

pub returns-then-numbers-i : goal.returns-then-numbers-i
returns-then-numbers-i c =
    let below = c.places-test.true in
    let long = c.requires in
    place_found c.args.numbers.now c.places.i c.args.a (omega arith) c.places.invariant
    c.if-numbers-i.true

pub returns : goal.returns
returns c =
    let long = c.requires in
    place_missing c.args.numbers.now c.args.a
    (λ k l. let h = c.places-test.false in c.places.invariant k (omega arith))
