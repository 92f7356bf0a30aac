use Rattle.mc_graph.proofs.BuiltGraphs.{built_inputs}
use Rattle.mc_graph.proofs.builder.GraphBuilder.set_inputs.Goals as goal

pub invariant_of-self : goal.invariant_of-self
invariant_of-self g c =
    let few = c.requires in
    built_inputs _ _ c.self.inside.links c.args.count c.self.invariant
    (rw (← c.self.view_is) at few)
