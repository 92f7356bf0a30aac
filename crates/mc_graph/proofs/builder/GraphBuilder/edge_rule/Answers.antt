use Rattle.std.proofs.Common.{sym, ◌∙◌}
use Rattle.mc_graph.specs.Building.{graph_so_far}
use Rattle.mc_graph.proofs.BuiltGraphs.{same_edge, edge_there, edge_missing}
use Rattle.mc_graph.proofs.builder.GraphBuilder.edge_rule.Goals as goal

pub returns-then-has : goal.returns-then-has
returns-then-has g c =
    let count = c.len-count.ensures.len in
    let la = rw count at c.if-b-count.false.0 in
    let lb = rw count at c.if-b-count.false.1 in
    rw (← c.self.view_is)
    (edge_there (graph_so_far c.self.inside.names c.self.inside.inputs c.self.inside.links
    c.self.inside.labels.items) c.args.a c.args.b la lb c.if-a-b.false
    (same_edge _ c.self.inside.names c.self.inside.inputs c.self.inside.links
    c.self.inside.labels.items c.args.a c.args.b c.self.invariant la lb c.if-a-b.false
    ∙ sym c.has.ensures ∙ c.if-has.true))

pub returns-else-has : goal.returns-else-has
returns-else-has g c =
    let count = c.len-count.ensures.len in
    let la = rw count at c.if-b-count.false.0 in
    let lb = rw count at c.if-b-count.false.1 in
    rw (← c.self.view_is)
    (edge_missing (graph_so_far c.self.inside.names c.self.inside.inputs c.self.inside.links
    c.self.inside.labels.items) c.args.a c.args.b la lb c.if-a-b.false
    (same_edge _ c.self.inside.names c.self.inside.inputs c.self.inside.links
    c.self.inside.labels.items c.args.a c.args.b c.self.invariant la lb c.if-a-b.false
    ∙ sym c.has.ensures ∙ c.if-has.false))
