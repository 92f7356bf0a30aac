use Rattle.mc_extract.specs.Written.{first_row}
use Rattle.mc_extract.proofs.GateLists.{vertex_more}
use Rattle.mc_extract.proofs.gates.push_first.Goals as goal

pub vertices-preserved : goal.vertices-preserved
vertices-preserved g c =
    vertex_more c.args.circuit.now
    (first_row c.args.g.now c.args.wires.now c.args.first.now) c.vertices.v c.vertices.circuit
    c.vertices.invariant c.in_ok-push_row_if_first.ensures
