use Rattle.std.proofs.Common.{◌≡◌, ℕ, ◌<◌, ◌≤◌, false}
use Rattle.mc_cert.specs.BoundRules.{lacks_sets}
use Rattle.mc_cert.proofs.bound.lacks_rows.Given as goal

abbrev pub invariant-layers : goal.invariant-layers
invariant-layers g l =
    (1 ≤ l.k) × ((w : ℕ) → 1 ≤ w → w < l.k →
    lacks_sets l.g l.b.layers l.b.rows w ≡ false)
