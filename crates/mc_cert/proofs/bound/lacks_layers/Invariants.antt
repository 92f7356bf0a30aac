use Rattle.std.proofs.Common.{◌≡◌, ℕ, ◌<◌, false}
use Rattle.mc_cert.specs.BoundRules.{lacks_layer}
use Rattle.mc_cert.proofs.bound.lacks_layers.Given as goal

abbrev pub invariant-vertices : goal.invariant-vertices
invariant-vertices g l =
    (w : ℕ) → w < l.v → lacks_layer l.g l.b.layers w ≡ false
