use Rattle.std.proofs.Common.{arith}
use Rattle.mc_extract.proofs.GateLists.{long_first, long_wires, gates_made}
use Rattle.mc_extract.proofs.gates.push_gates.Goals as goal

pub push_first-requires : goal.push_first-requires
push_first-requires g c = (
  omega arith,
  (
    omega arith,
    (
      long_wires c.args.g.now c.args.next.now c.args.order.now c.args.wires.now c.args.first.now
          c.requires,
      long_first c.args.g.now c.args.next.now c.args.order.now c.args.wires.now c.args.first.now
          c.requires,
    ),
  ),
)

pub push_fixed-requires : goal.push_fixed-requires
push_fixed-requires g c = (
  omega arith,
  (
    omega arith,
    long_wires c.args.g.now c.args.next.now c.args.order.now c.args.wires.now c.args.first.now
        c.requires,
  ),
)

pub returns : goal.returns
returns g c =
    gates_made g.row.H c.args.g.now c.args.next.now c.args.order.now c.args.wires.now
    c.args.first.now c.args.circuit.now c.len-count.ensures.valid.open_graph c.requires
    c.in_ok-push_first.ensures c.in_ok-push_all_measured.ensures c.in_ok-push_fixed.ensures
