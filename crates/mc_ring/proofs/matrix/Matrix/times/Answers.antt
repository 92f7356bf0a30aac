use Rattle.std.proofs.Common.{◌≡◌, ◌<◌, ◌*◌, ◌+◌, ℕ, ap₂, arith}
use Rattle.mc_ring.proofs.EntriesInPlace.{place_below}
use Rattle.mc_ring.proofs.ProductsMade.{one_more}
use Rattle.mc_ring.proofs.matrix.Matrix.times.Goals as goal

pub entries-preserved : goal.entries-preserved
entries-preserved g c =
    let places : c.rows-rows.result * c.columns-columns.result
    ≡ c.args.self.now.rows * c.args.other.now.columns =
    ap₂ (λ (x y : ℕ). x * y) c.rows-rows.ensures.rows c.columns-columns.ensures.columns in
    let within : c.entries.i < c.args.self.now.rows * c.args.other.now.columns =
    omega (arith, places, c.entries-test.true) in
    one_more g.R.Ring.InRange g.R.Ring.nought g.R.Ring.sum_of g.R.Ring.product_of
    c.args.self.now c.args.other.now c.entries.product c.entries.i c.columns-columns.result
    c.set.new.self (g.R.Ring.seen c.in-Some.entry) c.columns-columns.ensures.columns
    c.entries.invariant within c.set.ensures.size.0 c.set.ensures.size.1 c.set.ensures.others
    c.set.ensures.entry c.in-Some.ensures.0 c.in-Some.ensures.1

pub returns-clause-stays : goal.returns-clause-stays
returns-clause-stays g c i j h k =
    let places : c.rows-rows.result * c.columns-columns.result
    ≡ c.args.self.now.rows * c.args.other.now.columns =
    ap₂ (λ (x y : ℕ). x * y) c.rows-rows.ensures.rows c.columns-columns.ensures.columns in
    let below : i * c.args.other.now.columns + j
    < c.args.self.now.rows * c.args.other.now.columns =
    place_below c.args.self.now.rows c.args.other.now.columns i j h k in
    c.entries.invariant.stays i j h k (omega (arith, places, below, c.entries-test.false))
