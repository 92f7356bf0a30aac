use Rattle.std.proofs.Common.{◌≡◌, map}
use Rattle.mc_model.specs.Numbers.{numbers_from}
use Rattle.mc_extract.specs.Finder.{found_after}
use Rattle.mc_extract.proofs.finder.begun.Given as goal

abbrev pub invariant-vertices : goal.invariant-vertices
invariant-vertices g l =
    l.found.items ≡ map (found_after l.g 0) (numbers_from 0 l.v)
