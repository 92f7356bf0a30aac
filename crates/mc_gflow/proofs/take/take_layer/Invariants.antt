use Rattle.std.specs.Prelude.{◌≡◌, ◌+◌, ◌≤◌, true, false, length, slice_index}
use Rattle.mc_model.specs.Graph.{size}
use Rattle.mc_elim.specs.Tables.{entry}
use Rattle.mc_gflow.specs.Layers.{TakenUpTo, AreAlone, HasSquare, untaken}
use Rattle.mc_gflow.proofs.take.take_layer.Given as goal

abbrev pub invariant-vertices : goal.invariant-vertices
invariant-vertices g l = record {
  taken : TakenUpTo l.graph (slice_index l.layers) 65535 l.layer l.u (entry l.sets)
      (slice_index l.order) l.basis;
  square : HasSquare (size l.graph) l.sets;
  length : length l.columns ≡ length l.fn.columns;
  fewer : l.found ≡ true → untaken 65535 l.layers + 1 ≤ untaken 65535 l.fn.layers;
  no_more : untaken 65535 l.layers ≤ untaken 65535 l.fn.layers;
  same : l.found ≡ false → (l.layers ≡ l.fn.layers) × (l.sets ≡ l.fn.sets);
  alone : l.basis.has_added ≡ false →
      AreAlone l.graph (slice_index l.fn.layers) l.layer (entry l.fn.sets) →
      AreAlone l.graph (slice_index l.layers) l.layer (entry l.sets);
}
