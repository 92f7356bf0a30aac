use Rattle.std.proofs.Common.{◌≡◌, drop}
use Rattle.mc_graph.specs.RowLists.{row_at}
use Rattle.mc_extract.proofs.nexts.row_of.Given as goal

abbrev pub invariant-rows : goal.invariant-rows
invariant-rows l =
    row_at (λ r. r.vertex) l.f.rows l.v ≡ row_at (λ r. r.vertex) (drop l.i l.f.rows) l.v
