use Rattle.std.proofs.Common.{[], ◌∷◌}
use Rattle.mc_cert.proofs.RuleLoops.{RowsLeft}
use Rattle.mc_cert.specs.BoundRules.{keeping_rules, bound_end_rules}
use Rattle.mc_cert.proofs.bound.check_rows.Given as goal

abbrev pub invariant-rows : goal.invariant-rows
invariant-rows g l =
    RowsLeft (keeping_rules l.g l.b.depth l.b.layers)
    (bound_end_rules l.g l.b.depth l.b.layers l.b.rows ∷ []) l.first l.b.rows l.i
