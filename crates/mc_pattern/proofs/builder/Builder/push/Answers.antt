use Rattle.std.proofs.Common.{sym, arith}
use Rattle.std.proofs.lemmas.List.{map-append, length-map}
use Rattle.mc_pattern.proofs.Built.{built_push}
use Rattle.mc_pattern.proofs.Lent.{come_back}
use Rattle.mc_pattern.proofs.builder.Builder.push.Goals as goal

pub invariant_of-self-2 : goal.invariant_of-self-2
invariant_of-self-2 g c =
    let unbroken = sym c.in_default.ensures.rule in
    let lent = c.mark.auto.marks in
    let marks = c.deref_mut.ensures.value in
    let same = c.mark.ensures in
    let room = c.if-len-ge-MOST_COMMANDS.false in
    let count = c.len-2.ensures in
    let long = c.self.inside.marks.ok.0 in
    let back = come_back c.self.inside.marks.items c.mark.new.marks _ long (rw marks at lent) in
    rw (c.in-Ok.ensures.ok, map-append, back)
    (built_push _ _ _ _ _ _ _ c.self.invariant c.requires c.in_default.ensures.typed
    (rw (c.len.ensures.len, c.as_slice.ensures.value) at unbroken)
    (rw length-map (omega arith))
    (rw marks at lent)
    (rw (marks, c.measured_by-measured.ensures) at same))
