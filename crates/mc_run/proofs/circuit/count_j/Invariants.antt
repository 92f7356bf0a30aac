use Rattle.std.proofs.Common.{◌≡◌, ◌+◌, ◌≤◌, drop, map}
use Rattle.mc_model.specs.Amplitude.{j_count}
use Rattle.mc_circuit.specs.Gates.{plain_gate}
use Rattle.mc_run.proofs.circuit.count_j.Given as goal

abbrev pub invariant-gates : goal.invariant-gates
invariant-gates g l = record {
  sum : l.count + j_count (map (plain_gate {h = g.row.H}) (drop l.gate-index l.gates))
      ≡ j_count (map (plain_gate {h = g.row.H}) l.gates);
  below : l.count ≤ l.gate-index;
}
