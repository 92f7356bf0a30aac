use Rattle.mc_extract.specs.Written.{fixed_row}
use Rattle.mc_extract.proofs.GateLists.{vertex_more}
use Rattle.mc_extract.proofs.gates.push_fixed.Goals as goal

pub vertices-preserved : goal.vertices-preserved
vertices-preserved g c =
    vertex_more c.args.circuit.now (fixed_row g.row.H c.args.g.now c.args.wires.now)
    c.vertices.v c.vertices.circuit c.vertices.invariant c.in_ok-push_fixed_row.ensures
