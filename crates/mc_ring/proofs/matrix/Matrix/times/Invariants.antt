use Rattle.mc_ring.proofs.ProductsMade.{IsMade}
use Rattle.mc_ring.proofs.matrix.Matrix.times.Given as goal

abbrev pub invariant-entries : goal.invariant-entries
invariant-entries g l = IsMade g.R.Ring.InRange g.R.Ring.nought g.R.Ring.sum_of
    g.R.Ring.product_of l.fn.self l.fn.other l.product l.i
