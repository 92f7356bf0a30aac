use Rattle.std.proofs.Common.{◌≡◌, drop}
use Rattle.mc_cert.specs.BoundRules.{has_layer}
use Rattle.mc_cert.proofs.bound.has_layer.Given as goal

abbrev pub invariant-layers : goal.invariant-layers
invariant-layers l = has_layer (drop l.i l.b.layers) l.depth ≡ has_layer l.b.layers l.depth
