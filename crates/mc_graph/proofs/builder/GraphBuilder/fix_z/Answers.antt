use Rattle.std.proofs.Common.{sym, ◌∙◌, ap, arith, true}
use Rattle.std.proofs.lemmas.List.{length-map}
use Rattle.mc_model.specs.Graph.{Fixed}
use Rattle.mc_graph.specs.Building.{with_fixed, graph_so_far}
use Rattle.mc_graph.proofs.BuiltGraphs.{fixed_is, fixed_read, built_fixed, within_rule}
use Rattle.mc_graph.proofs.builder.GraphBuilder.fix_z.Goals as goal

pub returns-clause-added : goal.returns-clause-added
returns-clause-added g c =
    let labels = c.self.inside.labels.items in
    let l = c.index_mut.result.now in
    let many = length-map labels (λ k. k.angle) in
    let long = c.self.invariant.begun.angles in
    let unbroken = sym c.in_default.ensures in
    let within = within_rule _ c.args.v _ _ (rw (← c.self.view_is) at unbroken) in
    rw (← c.self.view_is)
    (fixed_is c.self.inside.names c.self.inside.inputs c.self.inside.links labels c.args.v l
    c.index_mut.ensures.value (record { x = c.index_mut.result.now.fixed.x; z = true })
    ∙ ap (λ (f : Fixed). with_fixed (graph_so_far c.self.inside.names c.self.inside.inputs c.self.inside.links
    c.self.inside.labels.items) c.args.v (record f { z = true }))
    (sym (fixed_read c.self.inside.names c.self.inside.inputs c.self.inside.links labels c.args.v l
    c.index_mut.ensures.value (omega arith))))

pub invariant_of-self : goal.invariant_of-self
invariant_of-self g c =
    rw (fixed_is c.self.inside.names c.self.inside.inputs c.self.inside.links
    c.self.inside.labels.items c.args.v c.index_mut.result.now c.index_mut.ensures.value
    (record { x = c.index_mut.result.now.fixed.x; z = true }))
    (built_fixed _ _ c.self.inside.links c.args.v _ c.self.invariant)
