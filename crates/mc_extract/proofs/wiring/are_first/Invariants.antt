use Rattle.std.proofs.Common.{◌≡◌, map}
use Rattle.mc_model.specs.Numbers.{numbers_from}
use Rattle.mc_model.specs.Made.{is_first}
use Rattle.mc_extract.specs.Chains.{number_at}
use Rattle.mc_extract.proofs.wiring.are_first.Given as goal

abbrev pub invariant-vertices : goal.invariant-vertices
invariant-vertices g l =
    l.first.items ≡ map (is_first l.g (number_at l.next)) (numbers_from 0 l.v)
