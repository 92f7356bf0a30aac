use Rattle.mc_top.proofs.ByteSums.{sum_more}
use Rattle.mc_top.proofs.sample.sum_of.Goals as goal

pub bytes-preserved : goal.bytes-preserved
bytes-preserved c =
    rw c.from.ensures (sum_more c.args.bytes.now c.bytes.byte-index c.bytes.total c.bytes-test.true
    c.bytes.invariant)
