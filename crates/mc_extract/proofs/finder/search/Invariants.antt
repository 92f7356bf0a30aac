use Rattle.std.proofs.Common.{◌≡◌}
use Rattle.mc_extract.specs.Finder.{all_found}
use Rattle.mc_extract.proofs.finder.search.Given as goal

abbrev pub invariant-rounds : goal.invariant-rounds
invariant-rounds g l = l.found.items ≡ all_found l.g l.rounds
