use Rattle.std.proofs.Common.{◌≡◌}
use Rattle.std.specs.Prelude.{flat_map}
use Rattle.mc_model.specs.Numbers.{numbers_from}
use Rattle.mc_extract.specs.Written.{with_gates, first_row}
use Rattle.mc_extract.proofs.gates.push_first.Given as goal

abbrev pub invariant-vertices : goal.invariant-vertices
invariant-vertices g l =
    l.circuit ≡ with_gates l.fn.circuit
    (flat_map (first_row l.g l.wires l.first) (numbers_from 0 l.v))
