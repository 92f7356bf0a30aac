use Rattle.std.proofs.Common.{◌≡◌, take}
use Rattle.mc_model.specs.Bits.{◌⊻◌, Bits, parity}
use Rattle.mc_model.specs.Signals.{value, IsRising}
use Rattle.mc_shift.specs.Shifts.{signals_of}
use Rattle.mc_shift.proofs.shifted.put_in.Given as goal

abbrev pub invariant-members : goal.invariant-members
invariant-members l = record {
  rising : IsRising l.sum.members;
  same : (o : Bits) →
      value l.sum o
      ≡ value l.fn.s o ⊻ parity (take l.i l.members) (λ q. value (signals_of l.fn.shifts q) o);
}
