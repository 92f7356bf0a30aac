use Rattle.std.proofs.Common.{◌≡◌, ℕ, ◌<◌, false}
use Rattle.mc_graph.specs.Rules.{is_fixed_inside}
use Rattle.mc_graph.proofs.builder.GraphBuilder.has_fixed_inside.Given as goal

abbrev pub invariant-vertices : goal.invariant-vertices
invariant-vertices g l = (k : ℕ) → k < l.v → is_fixed_inside l.self k ≡ false
