use Rattle.std.proofs.Common.{◌≡◌, ℕ, ◌<◌, false}
use Rattle.mc_graph.specs.Rules.{is_missing}
use Rattle.mc_graph.proofs.builder.GraphBuilder.has_missing.Given as goal

abbrev pub invariant-vertices : goal.invariant-vertices
invariant-vertices g l = (k : ℕ) → k < l.v → is_missing l.self l.outputs k ≡ false
