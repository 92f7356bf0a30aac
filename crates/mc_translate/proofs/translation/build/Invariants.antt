use Rattle.std.proofs.Common.{drop, map}
use Rattle.mc_circuit.specs.Gates.{plain_gate}
use Rattle.mc_translate.proofs.GatesLeft.{AreGatesLeft}
use Rattle.mc_translate.proofs.translation.build.Given as goal

abbrev pub invariant-gates : goal.invariant-gates
invariant-gates g l =
    AreGatesLeft g.row.H l.circuit l.at.items l.builder
    (map (plain_gate {h = g.row.H}) (drop l.gate-index l.gate-items))
