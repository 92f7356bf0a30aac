use Rattle.std.specs.Prelude.{slice_index}
use Rattle.mc_model.specs.Graph.{size}
use Rattle.mc_elim.specs.Tables.{entry}
use Rattle.mc_gflow.specs.Layers.{AreRefuted, HasSquare}
use Rattle.mc_gflow.proofs.take.refute_all.Given as goal

abbrev pub invariant-vertices : goal.invariant-vertices
invariant-vertices g l = record {
  refuted : AreRefuted l.graph (slice_index l.layers) 65535 l.u (entry l.sets) l.basis;
  square : HasSquare (size l.graph) l.sets;
}
