use Rattle.std.proofs.Common.{◌≡◌, map}
use Rattle.mc_model.specs.Numbers.{numbers_where, numbers_from}
use Rattle.mc_graph.specs.Links.{linked}
use Rattle.mc_graph.proofs.links.Links.rows.Given as goal

abbrev pub invariant-vertices : goal.invariant-vertices
invariant-vertices l =
    map (λ r. r.items) l.rows.items
    ≡ map (λ v. numbers_where (linked l.self v) l.count) (numbers_from 0 l.v)
