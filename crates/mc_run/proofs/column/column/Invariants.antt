use Rattle.std.proofs.Common.{◌≡◌, ℕ, ◌<◌, length, map}
use Rattle.mc_run.specs.Settings.{place_spelled}
use Rattle.mc_run.specs.Sources.{entry}
use Rattle.mc_run.proofs.column.column.Given as goal

abbrev pub invariant-entries : goal.invariant-entries
invariant-entries g l = record {
  long : length l.column.items ≡ l.y;
  values : (y : ℕ) → y < length (map g.R.Ring.seen l.column.items) →
      entry (map g.R.Ring.seen l.column.items) y
      ≡ entry (map g.R.Ring.seen l.state.entries.items)
      (place_spelled l.state.live.items l.outputs y);
}
