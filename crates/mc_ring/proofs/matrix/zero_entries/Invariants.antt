use Rattle.std.proofs.Common.{◌≡◌, map, replicate}
use Rattle.mc_ring.proofs.matrix.zero_entries.Given as goal

abbrev pub invariant-entries : goal.invariant-entries
invariant-entries g l = map g.R.Ring.seen l.entries.items ≡ replicate l.k g.R.Ring.nought
