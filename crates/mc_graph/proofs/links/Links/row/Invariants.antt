use Rattle.std.proofs.Common.{◌≡◌}
use Rattle.mc_model.specs.Numbers.{numbers_where}
use Rattle.mc_graph.specs.Links.{linked}
use Rattle.mc_graph.proofs.links.Links.row.Given as goal

abbrev pub invariant-vertices : goal.invariant-vertices
invariant-vertices l = l.row.items ≡ numbers_where (linked l.self l.v) l.w
