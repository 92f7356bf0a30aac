use Rattle.std.proofs.Common.{◌≡◌, map}
use Rattle.mc_model.specs.Numbers.{numbers_from}
use Rattle.mc_graph.specs.Flows.{next_in}
use Rattle.mc_extract.proofs.nexts.nexts_of.Given as goal

abbrev pub invariant-vertices : goal.invariant-vertices
invariant-vertices l = l.next.items ≡ map (next_in l.f.rows) (numbers_from 0 l.v)
