use Rattle.std.proofs.Common.{◌≡◌, ◌+◌, ◌-◌, ◌≤◌, ◌++◌, length, drop}
use Rattle.mc_model.specs.Signals.{toggled_all}
use Rattle.mc_signal.proofs.set.merged.Given as goal

abbrev pub invariant-merge : goal.invariant-merge
invariant-merge l = record {
  within_left : l.i ≤ length l.left;
  within_right : l.j ≤ length l.right;
  same : l.sum.items ++ toggled_all (drop l.i l.left) (drop l.j l.right)
      ≡ toggled_all l.left l.right;
}

abbrev pub decreases-merge : goal.decreases-merge
decreases-merge l = (length l.left - l.i) + (length l.right - l.j)
