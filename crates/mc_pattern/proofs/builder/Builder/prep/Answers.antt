use Rattle.std.proofs.Common.{arith}
use Rattle.std.proofs.lemmas.List.{map-append, length-map}
use Rattle.mc_pattern.proofs.Built.{built_prep}
use Rattle.mc_pattern.proofs.builder.Builder.prep.Goals as goal

pub invariant_of-self-in-Ok-add : goal.invariant_of-self-in-Ok-add
invariant_of-self-in-Ok-add g c =
    let valid = c.len-count-in-Ok-add.ensures.names in
    let room = c.if-count-ge-MOST_COMMANDS.false in
    let count = c.len-count.ensures in
    rw (c.in-Ok-add.ensures.added, c.in-Ok.ensures.ok, map-append, c.len-number.ensures.len)
    (built_prep _ _ _ _ _ _ c.self.invariant
    (rw c.in-Ok-add.ensures.added at valid)
    (rw length-map (omega arith)))
