use Rattle.std.proofs.Common.{◌≡◌}
use Rattle.mc_model.specs.Numbers.{numbers_from}
use Rattle.mc_translate.proofs.wires.in_order.Given as goal

abbrev pub invariant-numbers : goal.invariant-numbers
invariant-numbers l = l.numbers.items ≡ numbers_from 0 l.number
