use Rattle.std.proofs.Common.{ℕ, ◌<◌}
use Rattle.mc_cyclo.specs.Phase.{IsPhase}
use Rattle.mc_cyclo.proofs.phase.phase_between.Given as goal

abbrev pub invariant-phases : goal.invariant-phases
invariant-phases g l = (j : ℕ) → j < l.k → ¬ IsPhase l.a l.b j
