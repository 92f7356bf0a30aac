use Rattle.std.proofs.Common.{◌≡◌, false, ◌||◌}
use Rattle.std.specs.List.{list_any}
use Rattle.mc_model.specs.Numbers.{numbers_from}
use Rattle.mc_model.specs.Graph.{fixed_at}
use Rattle.mc_graph_text.proofs.print.has_fixed.Given as goal

abbrev pub invariant-vertices : goal.invariant-vertices
invariant-vertices g l =
    list_any (λ v. (fixed_at l.graph v).x || (fixed_at l.graph v).z) (numbers_from 0 l.v) ≡ false
