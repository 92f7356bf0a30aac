use Rattle.std.proofs.Common.{◌≡◌, count_by, take}
use Rattle.mc_circuit.specs.Gates.{plain_gate}
use Rattle.mc_translate.specs.Qubits.{is_j}
use Rattle.mc_translate.proofs.translation.count_j.Given as goal

abbrev pub invariant-gates : goal.invariant-gates
invariant-gates g l =
    l.count ≡ count_by (λ gate. is_j (plain_gate {h = g.row.H} gate)) (take l.gate-index l.gates)
