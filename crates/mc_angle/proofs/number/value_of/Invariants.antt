use Rattle.std.proofs.Common.{◌≡◌, ◌^◌, ◌<◌, take}
use Rattle.mc_angle.specs.Number.{number_of}
use Rattle.mc_angle.proofs.number.value_of.Given as goal

abbrev pub invariant-digits : goal.invariant-digits
invariant-digits l = record {
  value : l.sum ≡ number_of (take l.digit-index l.digits);
  small : l.sum < 10 ^ l.digit-index;
}
