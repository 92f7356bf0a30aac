use Rattle.std.proofs.Common.{◌≡◌, map, take}
use Rattle.mc_circuit.specs.Gates.{plain_gate}
use Rattle.mc_gates.specs.Steps.{with_gates}
use Rattle.mc_gates.proofs.step.push_all.Given as goal

abbrev pub invariant-gates : goal.invariant-gates
invariant-gates l =
    l.circuit ≡ with_gates l.fn.circuit (map (plain_gate {h = 4}) (take l.gate-index l.gates))
