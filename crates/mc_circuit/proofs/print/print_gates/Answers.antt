use Rattle.std.proofs.Common.{arith}
use Rattle.mc_circuit.specs.Gates.{plain_gate}
use Rattle.mc_circuit.proofs.Printing.{GatesFit-at}
use Rattle.mc_circuit.proofs.print.print_gates.Goals as goal

pub print_gate-requires : goal.print_gate-requires
print_gate-requires g c = (
  omega arith,
  GatesFit-at plain_gate _ c.args.gates.now c.gates.gate-index c.gate-item.result
      c.gate-item.is c.gates-test.true c.requires,
)
