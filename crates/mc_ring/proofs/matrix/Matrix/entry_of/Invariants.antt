use Rattle.std.proofs.Common.{◌≡◌}
use Rattle.mc_ring.specs.Matrices.{products, sum_below, StaysBelow}
use Rattle.mc_ring.proofs.matrix.Matrix.entry_of.Given as goal

abbrev pub invariant-terms : goal.invariant-terms
invariant-terms g l =
    (g.R.Ring.seen l.sum ≡ sum_below g.R.Ring.nought g.R.Ring.sum_of
    (products g.R.Ring.product_of l.fn.self l.fn.other l.fn.r l.fn.c) l.k)
    × StaysBelow g.R.Ring.InRange g.R.Ring.nought g.R.Ring.sum_of
    (products g.R.Ring.product_of l.fn.self l.fn.other l.fn.r l.fn.c) l.k
