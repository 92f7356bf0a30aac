use Rattle.std.proofs.Common.{◌≡◌, map, take}
use Rattle.mc_extract.specs.Chains.{number_at}
use Rattle.mc_extract.proofs.named.outputs_of.Given as goal

abbrev pub invariant-outputs : goal.invariant-outputs
invariant-outputs l = l.out.items ≡ map (number_at l.wires) (take l.v-index l.outputs)
