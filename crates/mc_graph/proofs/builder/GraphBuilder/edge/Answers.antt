use Rattle.std.proofs.Common.{sym, ◌∙◌}
use Rattle.mc_graph.specs.Building.{graph_so_far}
use Rattle.mc_graph.proofs.BuiltGraphs.{edge_is, built_edge, new_edge, same_edge}
use Rattle.mc_graph.proofs.builder.GraphBuilder.edge.Goals as goal

pub returns-clause-added : goal.returns-clause-added
returns-clause-added g c =
    let unbroken = sym c.in_default.ensures in
    let new = new_edge (graph_so_far c.self.inside.names c.self.inside.inputs c.self.inside.links
    c.self.inside.labels.items) c.args.a c.args.b (rw (← c.self.view_is) at unbroken) in
    rw (← c.self.view_is)
    (edge_is c.self.inside.names c.self.inside.inputs c.self.inside.links c.toggle.new.self
    c.self.inside.labels.items c.args.a c.args.b c.self.invariant.either
    (sym (same_edge _ c.self.inside.names c.self.inside.inputs c.self.inside.links
    c.self.inside.labels.items c.args.a c.args.b c.self.invariant new.one new.other new.apart)
    ∙ new.new)
    c.toggle.ensures.pairs)

pub invariant_of-self : goal.invariant_of-self
invariant_of-self g c =
    let unbroken = sym c.in_default.ensures in
    let new = new_edge (graph_so_far c.self.inside.names c.self.inside.inputs c.self.inside.links
    c.self.inside.labels.items) c.args.a c.args.b (rw (← c.self.view_is) at unbroken) in
    rw (edge_is c.self.inside.names c.self.inside.inputs c.self.inside.links c.toggle.new.self
    c.self.inside.labels.items c.args.a c.args.b c.self.invariant.either
    (sym (same_edge _ c.self.inside.names c.self.inside.inputs c.self.inside.links
    c.self.inside.labels.items c.args.a c.args.b c.self.invariant new.one new.other new.apart)
    ∙ new.new)
    c.toggle.ensures.pairs)
    (built_edge _ (graph_so_far c.self.inside.names c.self.inside.inputs c.self.inside.links
    c.self.inside.labels.items) c.self.inside.links c.toggle.new.self c.args.a c.args.b c.self.invariant
    new.one new.other c.toggle.ensures.pairs c.toggle.ensures.valid)
