use Rattle.std.proofs.Common.{[], ◌∷◌}
use Rattle.mc_cert.proofs.RuleLoops.{RowsLeft}
use Rattle.mc_cert.specs.RefuterRules.{refuter_rules, refuter_end_rules}
use Rattle.mc_cert.proofs.refuter.judged.Given as goal

abbrev pub invariant-rows : goal.invariant-rows
invariant-rows g l =
    let graph = l.g in
    RowsLeft (refuter_rules graph l.r) (refuter_end_rules l.r ∷ []) 1 l.r l.i
