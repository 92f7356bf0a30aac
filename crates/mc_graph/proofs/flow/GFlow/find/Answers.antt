use Rattle.mc_graph.proofs.RowsFound.{row_found, row_missed}
use Rattle.mc_graph.proofs.flow.GFlow.find.Goals as goal

pub returns-then-vertex-row-clause-some : goal.returns-then-vertex-row-clause-some
returns-then-vertex-row-clause-some c =
    row_found (λ r. r.vertex) c.args.self.now.rows c.rows.i c.args.vertex _ c.row-row.ensures
    c.if-vertex-row.true c.rows.invariant

pub rows-preserved : goal.rows-preserved
rows-preserved c =
    row_missed (λ r. r.vertex) c.args.self.now.rows c.rows.i c.args.vertex _ c.row-row.ensures
    c.if-vertex-row.false c.rows.invariant
