use Rattle.std.proofs.Common.{◌≡◌, ◌*◌, ◌≤◌, length}
use Rattle.std.specs.Prelude.{flat_map}
use Rattle.mc_model.specs.Numbers.{numbers_from}
use Rattle.mc_model.specs.Graph.{corrections_at}
use Rattle.mc_extract.proofs.count.count_fixed.Given as goal

abbrev pub invariant-vertices : goal.invariant-vertices
invariant-vertices g l = record {
  count : l.count ≡ length (flat_map (corrections_at l.g) (numbers_from 0 l.v));
  few : l.count ≤ 2 * l.v;
}
