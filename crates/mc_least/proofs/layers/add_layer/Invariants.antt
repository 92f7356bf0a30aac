use Rattle.std.specs.Prelude.{◌≡◌}
use Rattle.mc_graph.specs.Flows.{layer_in}
use Rattle.mc_least.specs.Rows.{HoldsLayers}
use Rattle.mc_least.proofs.layers.add_layer.Given as goal

abbrev pub invariant-vertices : goal.invariant-vertices
invariant-vertices g l = record {
  layers : HoldsLayers l.g (layer_in l.f.rows) l.layer l.v l.bound.layers;
  same : (l.bound.depth ≡ l.fn.bound.depth) × (l.bound.rows ≡ l.fn.bound.rows);
}
