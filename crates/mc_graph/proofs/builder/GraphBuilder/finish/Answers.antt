use Rattle.std.proofs.Common.{sym}
use Rattle.mc_graph.proofs.StoredGraphs.{graph_rows, stored_rows}
use Rattle.mc_graph.proofs.FinishedGraphs.{finished}
use Rattle.mc_graph.proofs.builder.GraphBuilder.finish.Goals as goal

pub invariant_of-result : goal.invariant_of-result
invariant_of-result g c =
    let outs = c.in-Ok.ensures.items_if_clones_equal (λ x y e. e) in
    let unbroken = sym c.in_default.ensures in
    rw (
      outs,
      c.in-Ok-rows.ensures,
      c.len.ensures.len,
      graph_rows c.self.inside.names c.self.inside.inputs c.self.inside.links
          c.self.inside.labels.items c.args.outputs.now,
    )
    (stored_rows _ c.self.inside.names c.self.inside.inputs c.self.inside.links
    c.self.inside.labels.items c.args.outputs.now c.self.invariant.either
    (finished _ _ c.args.outputs.now c.self.invariant.begun (rw (← c.self.view_is) at unbroken)))

pub returns-in-Ok-rows-clause-graph : goal.returns-in-Ok-rows-clause-graph
returns-in-Ok-rows-clause-graph g c =
    let outs = c.in-Ok.ensures.items_if_clones_equal (λ x y e. e) in
    rw (← c.self.view_is, outs, c.in-Ok-rows.ensures, c.len.ensures.len)
    (graph_rows c.self.inside.names c.self.inside.inputs c.self.inside.links
    c.self.inside.labels.items c.args.outputs.now)
