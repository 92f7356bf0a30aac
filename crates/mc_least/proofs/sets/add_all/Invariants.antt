use Rattle.std.specs.Prelude.{◌≡◌}
use Rattle.mc_graph.specs.Flows.{layer_in}
use Rattle.mc_least.specs.Rows.{HoldsSets}
use Rattle.mc_least.proofs.sets.add_all.Given as goal

abbrev pub invariant-vertices : goal.invariant-vertices
invariant-vertices g l = record {
  rows : HoldsSets l.g (layer_in l.f.rows) l.k l.u l.bound.rows;
  same : (l.bound.depth ≡ l.fn.bound.depth) × (l.bound.layers ≡ l.fn.bound.layers);
}
