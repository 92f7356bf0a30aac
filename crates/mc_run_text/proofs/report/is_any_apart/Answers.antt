use Rattle.std.proofs.Common.{◌∙◌, sym, ap, arith, not}
use Rattle.std.specs.Prelude.{None}
use Rattle.std.specs.Option.{is_none}
use Rattle.mc_run_text.specs.Canonical.{phase_at}
use Rattle.mc_run_text.proofs.WrittenLines.{any_at, none_more}
use Rattle.mc_run_text.proofs.report.is_any_apart.Goals as goal

pub returns-then-is_none : goal.returns-then-is_none
returns-then-is_none g c =
    sym (any_at (λ i. is_none (phase_at c.args.report.now i)) _ c.branches.i
    (omega (arith, c.branches-test.true, c.branches-i-end.ensures))
    (ap is_none (c.phase.ensures None) ∙ ap not c.if-is_none.ensures))

pub branches-preserved : goal.branches-preserved
branches-preserved g c =
    none_more (λ i. is_none (phase_at c.args.report.now i)) c.branches.i c.branches.invariant
    (ap is_none (c.phase.ensures None) ∙ ap not c.if-is_none.ensures)
