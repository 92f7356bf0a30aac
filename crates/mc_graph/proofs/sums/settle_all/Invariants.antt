use Rattle.std.proofs.Common.{◌≡◌, map, take}
use Rattle.mc_graph.specs.Sums.{settled}
use Rattle.mc_graph.proofs.sums.settle_all.Given as goal

abbrev pub invariant-sums : goal.invariant-sums
invariant-sums g l = l.labels.items ≡ map settled (take l.label-index l.sums)
