use Rattle.std.proofs.Common.{◌≡◌, ℕ, ◌<◌, false}
use Rattle.mc_cert.specs.FlowRules.{odd_early}
use Rattle.mc_cert.proofs.flow.has_odd_early.Given as goal

abbrev pub invariant-vertices : goal.invariant-vertices
invariant-vertices g l =
    (w : ℕ) → w < l.v → odd_early l.g l.f.rows
    (record { vertex = l.vertex; layer = l.layer; set = l.set }) w ≡ false
