use Rattle.std.proofs.Common.{◌≡◌, length, map}
use Rattle.mc_run.specs.Exact.{exact}
use Rattle.mc_run.specs.Sources.{IsStepped}
use Rattle.mc_run.proofs.vector.stepped.Given as goal

abbrev pub invariant-entries : goal.invariant-entries
invariant-entries g l = record {
  long : length l.next.items ≡ l.i;
  stepped :
      IsStepped
      (exact g.R.Ring.nought g.R.Ring.unit g.R.Ring.sum_of g.R.Ring.negative_of
      g.R.PhaseRing.turned_by g.R.PhaseRing.HALF g.R.PhaseRing.height_of)
      g.R.Ring.IsElement l.step (map g.R.Ring.seen l.entries) (map g.R.Ring.seen l.next.items);
}
