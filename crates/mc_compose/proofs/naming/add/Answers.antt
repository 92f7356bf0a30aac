use Rattle.std.proofs.Common.{refl}
use Rattle.mc_compose.proofs.NewNames.{free_place}
use Rattle.mc_compose.proofs.naming.add.Goals as goal

pub unreachable-requires : goal.unreachable-requires
unreachable-requires c =
    let new = free_place c.args.names.now c.args.name c.requires.new in
    let refused = rw c.in-Err-Twice.field-0-is at c.in-Err-Twice.ensures in
    let held = (refused.twice c.in-Err-Twice.field-0-0).0 refl in
    absurd (cc (held, new))
