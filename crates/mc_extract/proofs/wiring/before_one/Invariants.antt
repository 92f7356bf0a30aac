use Rattle.std.proofs.Common.{◌≡◌, ℕ, ◌<◌, false}
use Rattle.mc_extract.specs.Chains.{number_at, is_before}
use Rattle.mc_extract.proofs.wiring.before_one.Given as goal

abbrev pub invariant-vertices : goal.invariant-vertices
invariant-vertices g l =
    (k : ℕ) → k < l.u →
    is_before l.g (number_at l.next) l.v k ≡ false
