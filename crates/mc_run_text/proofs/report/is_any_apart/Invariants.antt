use Rattle.std.proofs.Common.{◌≡◌, false}
use Rattle.mc_run_text.specs.Canonical.{is_any_apart}
use Rattle.mc_run_text.proofs.report.is_any_apart.Given as goal

abbrev pub invariant-branches : goal.invariant-branches
invariant-branches g l = is_any_apart l.i l.report ≡ false
