use Rattle.mc_graph.proofs.SettledGraphs.{graph_is, graph_stored}
use Rattle.mc_graph.proofs.of_pattern.graph_of.Goals as goal

pub returns-in-Ok : goal.returns-in-Ok
returns-in-Ok g c =
    let outs = c.in-Ok.ensures.items_if_clones_equal (λ x y e. e) in
    rw (
      outs,
      c.outputs.ensures,
      c.inputs.ensures,
      c.in_ok-names.ensures,
      c.names-2.ensures.names,
      c.in_ok-rows.ensures,
      c.len.ensures.len,
      c.names.ensures.names,
    )
    (graph_is _ c.args.p.now c.in_ok-links.links c.in_ok-labels.labels.items
    c.in_ok-links.ensures.pairs c.in_ok-labels.ensures)

pub invariant_of-result : goal.invariant_of-result
invariant_of-result g c =
    let p = c.args.p.now in
    let links = c.in_ok-links.links in
    let outs = c.in-Ok.ensures.items_if_clones_equal (λ x y e. e) in
    rw (
      outs,
      c.outputs.ensures,
      c.inputs.ensures,
      c.in_ok-names.ensures,
      c.names-2.ensures.names,
      c.in_ok-rows.ensures,
      c.len.ensures.len,
      c.names.ensures.names,
      graph_is _ p links c.in_ok-labels.labels.items c.in_ok-links.ensures.pairs
          c.in_ok-labels.ensures,
    )
    (graph_stored _ p links c.names.ensures.valid.valid c.names.ensures.valid.permitted
    c.in_ok-links.ensures.valid c.in_ok-links.ensures.pairs)
