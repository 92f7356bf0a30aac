use Rattle.std.proofs.Common.{◌≡◌, map, take}
use Rattle.mc_gates.specs.Steps.{wire_at}
use Rattle.mc_gates.proofs.named.wires_of.Given as goal

abbrev pub invariant-list : goal.invariant-list
invariant-list l = l.wires.items ≡ map (wire_at l.at) (take l.v-index l.list)
