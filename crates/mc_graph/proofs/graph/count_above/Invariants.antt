use Rattle.std.proofs.Common.{◌≡◌, count_by, take, nat_lt}
use Rattle.mc_graph.proofs.graph.count_above.Given as goal

abbrev pub invariant-numbers : goal.invariant-numbers
invariant-numbers l = l.count ≡ count_by (nat_lt l.v) (take l.number-index l.numbers)
