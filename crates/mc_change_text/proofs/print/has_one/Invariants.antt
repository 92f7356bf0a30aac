use Rattle.std.proofs.Common.{◌≡◌, take, false}
use Rattle.mc_change_text.specs.Changes.{has_constant}
use Rattle.mc_change_text.proofs.print.has_one.Given as goal

abbrev pub invariant-rows : goal.invariant-rows
invariant-rows l = has_constant (take l.i l.change) ≡ false
