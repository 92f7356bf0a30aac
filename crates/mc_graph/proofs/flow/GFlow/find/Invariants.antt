use Rattle.std.proofs.Common.{◌≡◌, take, None}
use Rattle.mc_graph.specs.RowLists.{row_at}
use Rattle.mc_graph.proofs.flow.GFlow.find.Given as goal

abbrev pub invariant-rows : goal.invariant-rows
invariant-rows l = row_at (λ r. r.vertex) (take l.i l.self.rows) l.vertex ≡ None
