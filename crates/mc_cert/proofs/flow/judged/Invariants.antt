use Rattle.std.proofs.Common.{[], ◌∷◌}
use Rattle.mc_cert.proofs.RuleLoops.{RowsLeft}
use Rattle.mc_cert.specs.FlowRules.{flow_rules, flow_end_rules}
use Rattle.mc_cert.proofs.flow.judged.Given as goal

abbrev pub invariant-rows : goal.invariant-rows
invariant-rows g l =
    let graph = l.g in
    RowsLeft (flow_rules graph l.f.depth l.f.rows)
    (flow_end_rules graph l.f.depth l.f.rows ∷ []) 1 l.f.rows l.i
