use Rattle.std.proofs.Common.{◌≡◌, take}
use Rattle.mc_gates.proofs.named.first_names.Given as goal

abbrev pub invariant-names : goal.invariant-names
invariant-names l = l.first ≡ take l.number l.names
