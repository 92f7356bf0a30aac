use Rattle.std.proofs.Common.{◌≡◌, ℕ, ◌<◌, false}
use Rattle.mc_cert.specs.BoundRules.{odd_behind}
use Rattle.mc_cert.proofs.bound.has_odd_behind.Given as goal

abbrev pub invariant-vertices : goal.invariant-vertices
invariant-vertices g l =
    (w : ℕ) → w < l.v → odd_behind l.g l.b.layers l.k l.set w ≡ false
