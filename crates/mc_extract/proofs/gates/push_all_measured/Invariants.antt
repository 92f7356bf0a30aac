use Rattle.std.proofs.Common.{drop}
use Rattle.mc_extract.specs.Chains.{number_at}
use Rattle.mc_extract.proofs.GateLists.{IsExtracting}
use Rattle.mc_extract.proofs.gates.push_all_measured.Given as goal

abbrev pub invariant-order : goal.invariant-order
invariant-order g l =
    IsExtracting g.row.H l.g (number_at l.next) l.order (drop l.i-index l.order) l.current
    l.fn.circuit l.circuit
