use Rattle.std.proofs.Common.{sym, ◌∙◌}
use Rattle.mc_graph.specs.Kept.{refuter_line}
use Rattle.mc_graph.proofs.OwnVertices.{row_mapped}
use Rattle.mc_graph.proofs.refuter.Refuter.has.Goals as goal

pub returns : goal.returns
returns c =
    let kept = rw c.deref.ensures.value at c.has_row.ensures in
    rw (← c.self.view_is)
    (kept ∙ sym (row_mapped (λ r. r.vertex) refuter_line c.self.inside.rows.items c.args.vertex))
