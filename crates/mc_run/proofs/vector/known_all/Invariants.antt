use Rattle.std.proofs.Common.{ℕ, ◌<◌, map}
use Rattle.mc_run.specs.Sources.{entry}
use Rattle.mc_run.proofs.vector.known_all.Given as goal

abbrev pub invariant-entries : goal.invariant-entries
invariant-entries g l =
    (i : ℕ) → i < l.i → g.R.Ring.IsElement (entry (map g.R.Ring.seen l.entries) i)
