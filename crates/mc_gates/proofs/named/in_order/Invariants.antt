use Rattle.std.proofs.Common.{◌≡◌}
use Rattle.mc_model.specs.Numbers.{numbers_from}
use Rattle.mc_gates.proofs.named.in_order.Given as goal

abbrev pub invariant-numbers : goal.invariant-numbers
invariant-numbers l = l.at.items ≡ numbers_from 0 l.number
