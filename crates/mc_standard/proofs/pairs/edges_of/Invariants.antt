use Rattle.std.proofs.Common.{◌≡◌, map}
use Rattle.mc_model.specs.Numbers.{pairs_below}
use Rattle.mc_model.specs.Pattern.{Ent}
use Rattle.mc_standard.specs.OddPairs.{is_odd}
use Rattle.mc_standard.specs.Plain.{plain_edge}
use Rattle.mc_standard.proofs.pairs.edges_of.Given as goal

abbrev pub invariant-lower : goal.invariant-lower
invariant-lower l = map plain_edge l.edges.items ≡ pairs_below Ent (is_odd l.odd) l.qubits l.i
