use Rattle.std.specs.Prelude.{◌≡◌}
use Rattle.mc_graph.specs.Flows.{layer_in}
use Rattle.mc_least.specs.Rows.{HoldsSets}
use Rattle.mc_least.proofs.sets.add_sets.Given as goal

abbrev pub invariant-layers : goal.invariant-layers
invariant-layers g l = record {
  rows : HoldsSets l.g (layer_in l.f.rows) l.k 0 l.bound.rows;
  same : (l.bound.depth ≡ l.fn.bound.depth) × (l.bound.layers ≡ l.fn.bound.layers);
}
