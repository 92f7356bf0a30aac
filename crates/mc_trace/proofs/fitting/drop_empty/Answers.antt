use Rattle.std.proofs.Common.{refl, sym}
use Rattle.mc_trace.proofs.FittingLines.{no_drop, drops_x, drops_z}
use Rattle.mc_trace.proofs.fitting.drop_empty.Goals as goal

pub returns-in_default : goal.returns-in_default
returns-in_default g c =
    λ new r. no_drop c.args.c.now new c.in_default.not-FixX c.in_default.not-FixZ r

pub returns-then-is_empty : goal.returns-then-is_empty
returns-then-is_empty g c =
    (refl, rw c.in-FixX.is (drops_x c.in-FixX.q c.in-FixX.s (sym c.if-is_empty.ensures)))

pub returns-then-is_empty-2 : goal.returns-then-is_empty-2
returns-then-is_empty-2 g c =
    (refl, rw c.in-FixZ.is (drops_z c.in-FixZ.q c.in-FixZ.s (sym c.if-is_empty-2.ensures)))
