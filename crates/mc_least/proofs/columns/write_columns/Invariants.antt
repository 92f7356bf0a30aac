use Rattle.mc_graph.specs.Flows.{layer_in}
use Rattle.mc_least.specs.Columns.{AreColumns}
use Rattle.mc_least.proofs.columns.write_columns.Given as goal

abbrev pub invariant-vertices : goal.invariant-vertices
invariant-vertices g l = AreColumns l.g (layer_in l.f.rows) l.k l.w l.columns
