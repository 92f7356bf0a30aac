use Rattle.std.proofs.Common.{◌≡◌, ℕ, ◌<◌, false, nat_eq}
use Rattle.mc_extract.specs.Chains.{number_at}
use Rattle.mc_extract.proofs.wiring.place_of.Given as goal

abbrev pub invariant-places : goal.invariant-places
invariant-places l = (k : ℕ) → k < l.i → nat_eq l.a (number_at l.numbers k) ≡ false
