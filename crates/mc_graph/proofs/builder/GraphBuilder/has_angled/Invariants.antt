use Rattle.std.proofs.Common.{◌≡◌, false, take}
use Rattle.std.specs.List.{list_any}
use Rattle.mc_graph.specs.Rules.{has_angle}
use Rattle.mc_graph.proofs.builder.GraphBuilder.has_angled.Given as goal

abbrev pub invariant-outputs : goal.invariant-outputs
invariant-outputs g l = list_any (has_angle l.self) (take l.v-index l.outputs) ≡ false
