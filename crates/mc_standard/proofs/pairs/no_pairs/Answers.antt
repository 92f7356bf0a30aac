use Rattle.std.proofs.Common.{rules}
use Rattle.mc_standard.proofs.OddPairs.{none_odd}
use Rattle.mc_standard.proofs.pairs.no_pairs.Goals as goal

pub returns-in-Ok-clause-none : goal.returns-in-Ok-clause-none
returns-in-Ok-clause-none c = λ i j h g.
    none_odd c.in-Ok.odd.items (c.in-Ok.ensures.items_if_clones_equal (λ y e. search rules)) i j
