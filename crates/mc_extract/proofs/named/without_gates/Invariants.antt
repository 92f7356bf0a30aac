use Rattle.std.proofs.Common.{◌≡◌, map, []}
use Rattle.mc_model.specs.Numbers.{numbers_where}
use Rattle.mc_extract.specs.Written.{bit_at, name_at}
use Rattle.mc_extract.proofs.named.without_gates.Given as goal

abbrev pub invariant-vertices : goal.invariant-vertices
invariant-vertices g l =
    l.circuit ≡ record {
      names = map (name_at l.g) (numbers_where (bit_at l.first) l.v);
      inputs = l.g.inputs;
      outputs = [];
      gates = [];
    }
