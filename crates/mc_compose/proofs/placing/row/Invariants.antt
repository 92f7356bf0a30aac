use Rattle.std.proofs.Common.{◌≡◌}
use Rattle.mc_model.specs.Numbers.{numbers_from}
use Rattle.mc_compose.proofs.placing.row.Given as goal

abbrev pub invariant-numbers : goal.invariant-numbers
invariant-numbers l = l.row.items ≡ numbers_from l.start l.k
