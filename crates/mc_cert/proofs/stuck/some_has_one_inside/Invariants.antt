use Rattle.std.proofs.Common.{◌≡◌, ℕ, ◌<◌, false}
use Rattle.mc_model.specs.Numbers.{is_member}
use Rattle.mc_cert.specs.StuckRules.{has_one_inside}
use Rattle.mc_cert.proofs.stuck.some_has_one_inside.Given as goal

abbrev pub invariant-vertices : goal.invariant-vertices
invariant-vertices g l =
    (w : ℕ) → w < l.v → has_one_inside l.g (is_member l.set) w ≡ false
