use Rattle.std.proofs.Common.{◌≡◌, map}
use Rattle.mc_model.specs.Numbers.{numbers_from}
use Rattle.mc_extract.specs.Rounds.{taken_vertex}
use Rattle.mc_extract.specs.Finder.{left_in}
use Rattle.mc_extract.proofs.finder.all_taken.Given as goal

abbrev pub invariant-vertices : goal.invariant-vertices
invariant-vertices g l =
    l.taken.items
    ≡ map (taken_vertex l.g (left_in l.found)) (numbers_from 0 l.w)
