use Rattle.std.proofs.Common.{◌≡◌, ◌++◌, map, take}
use Rattle.mc_write.specs.Text.{text_of}
use Rattle.mc_circuit.specs.Gates.{plain_gate}
use Rattle.mc_circuit.specs.Canonical.{gate_line}
use Rattle.mc_circuit.proofs.print.print_gates.Given as goal

abbrev pub invariant-gates : goal.invariant-gates
invariant-gates g l =
    l.text.items
    ≡ l.initial.text.items
    ++ text_of (map (gate_line l.names) (map plain_gate (take l.gate-index l.gates)))
