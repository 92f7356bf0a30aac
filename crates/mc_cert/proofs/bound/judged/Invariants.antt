use Rattle.mc_cert.specs.Rules.{before_first}
use Rattle.mc_cert.specs.BoundRules.{layer_rules, all_layers_rules, keeping_lines}
use Rattle.mc_cert.proofs.RuleLoops.{RowsLeft}
use Rattle.mc_cert.proofs.bound.judged.Given as goal

abbrev pub invariant-layers : goal.invariant-layers
invariant-layers g l =
    RowsLeft (layer_rules l.g l.b.depth)
    (before_first (all_layers_rules l.g l.b.depth l.b.layers)
    (keeping_lines l.g l.b.depth l.b.layers l.b.rows)) 1 l.b.layers l.i
