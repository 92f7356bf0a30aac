use Rattle.std.proofs.Common.{◌≡◌, ℕ, ◌<◌, false}
use Rattle.mc_cert.specs.FlowRules.{lacks_row}
use Rattle.mc_cert.proofs.flow.lacks_rows.Given as goal

abbrev pub invariant-vertices : goal.invariant-vertices
invariant-vertices g l =
    (w : ℕ) → w < l.v → lacks_row l.g l.f.rows w ≡ false
