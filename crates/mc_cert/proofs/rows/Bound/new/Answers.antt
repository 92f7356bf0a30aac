use Rattle.mc_cert.proofs.OwnBounds.{none_own}
use Rattle.mc_cert.proofs.rows.Bound.new.Goals as goal

pub invariant_of-result : goal.invariant_of-result
invariant_of-result c = rw (c.new.ensures.empty, c.new-2.ensures.empty) none_own
