use Rattle.std.proofs.Common.{◌≡◌}
use Rattle.mc_translate.proofs.FirstWires.{first_wires}
use Rattle.mc_translate.proofs.wires.with_wires.Given as goal

abbrev pub invariant-wires : goal.invariant-wires
invariant-wires g l = l.builder ≡ first_wires l.names l.inputs l.v
