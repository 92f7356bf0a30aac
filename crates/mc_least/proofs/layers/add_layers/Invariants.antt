use Rattle.std.specs.Prelude.{◌≡◌, ◌+◌}
use Rattle.mc_graph.specs.Flows.{layer_in}
use Rattle.mc_least.specs.Rows.{HoldsLayers}
use Rattle.mc_least.proofs.layers.add_layers.Given as goal

abbrev pub invariant-layers : goal.invariant-layers
invariant-layers g l = record {
  layers : HoldsLayers l.g (layer_in l.f.rows) (l.layer + 1) 0 l.bound.layers;
  same : (l.bound.depth ≡ l.fn.bound.depth) × (l.bound.rows ≡ l.fn.bound.rows);
}
