use Rattle.std.proofs.Common.{rules, arith}
use Rattle.mc_cyclo.proofs.Phases.{phase_by_entries}
use Rattle.mc_cyclo.proofs.phase.is_phase.Goals as goal

pub returns : goal.returns
returns g c = (
  λ t. phase_by_entries c.args.k c.args.a.now c.args.b.now c.requires
      (λ j h. c.entries.invariant j (omega (arith, c.entries-test.false))),
  λ e. search rules,
)
