use Rattle.std.proofs.Common.{◌≡◌, [], take}
use Rattle.mc_gates.proofs.named.without_gates.Given as goal

abbrev pub invariant-wires : goal.invariant-wires
invariant-wires l =
    l.circuit ≡ record {
      names = take l.v l.names;
      inputs = l.inputs;
      outputs = [];
      gates = [];
    }
