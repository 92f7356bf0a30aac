use Rattle.std.proofs.Common.{◌≡◌, map, take}
use Rattle.mc_top.specs.Commands.{is_one}
use Rattle.mc_top.proofs.branch.outcomes_of.Given as goal

abbrev pub invariant-digits : goal.invariant-digits
invariant-digits l = l.outcomes.items ≡ map is_one (take l.digit-index l.digits)
