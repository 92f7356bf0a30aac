use Rattle.std.proofs.Common.{◌≡◌, ℕ, ◌<◌, ◌||◌, true}
use Rattle.mc_model.specs.Numbers.{is_member}
use Rattle.mc_graph.specs.Rules.{has_angle}
use Rattle.mc_graph_text.proofs.steps.settles.Given as goal

abbrev pub invariant-vertices : goal.invariant-vertices
invariant-vertices g l = (k : ℕ) → k < l.v → has_angle l.graph k || is_member l.numbers k ≡ true
