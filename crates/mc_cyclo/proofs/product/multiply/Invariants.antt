use Rattle.std.proofs.Common.{◌≡◌, ◌-◌, ◌*◌, ◌^◌, ◌≤◌, length, drop}
use Rattle.mc_model.specs.Ring.{times}
use Rattle.mc_model.specs.Height.{height}
use Rattle.mc_cyclo.proofs.product.multiply.Given as goal

abbrev pub invariant-loop-i : goal.invariant-loop-i
invariant-loop-i l = record {
  product : l.wide ≡ times (drop l.i l.a) l.b;
  low : height l.wide ≤ (length l.a - l.i) * 2 ^ 120;
}
