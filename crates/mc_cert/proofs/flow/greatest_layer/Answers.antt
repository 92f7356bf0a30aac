use Rattle.std.proofs.Common.{sym, ap, ◌∙◌, List}
use Rattle.std.specs.Prelude.{fold, map, max}
use Rattle.mc_graph.specs.Flows.{FlowLine}
use Rattle.mc_cert.proofs.ListTests.{drop_at}
use Rattle.mc_cert.proofs.flow.greatest_layer.Goals as goal

pub rows-preserved : goal.rows-preserved
rows-preserved c =
    let next = drop_at c.args.f.now.rows c.rows.i _ c.row.ensures in
    rw c.max-most.ensures
    (sym (ap (λ (rs : List FlowLine). fold max c.rows.most (map (λ r. r.layer) rs)) next)
    ∙ c.rows.invariant)
