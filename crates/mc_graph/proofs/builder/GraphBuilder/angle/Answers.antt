use Rattle.mc_graph.proofs.BuiltGraphs.{angle_is, built_angle}
use Rattle.mc_graph.proofs.builder.GraphBuilder.angle.Goals as goal

pub returns-clause-added : goal.returns-clause-added
returns-clause-added g c =
    rw (← c.self.view_is)
    (angle_is c.self.inside.names c.self.inside.inputs c.self.inside.links
    c.self.inside.labels.items c.args.v c.index_mut.result.now c.index_mut.ensures.value _)

pub invariant_of-self : goal.invariant_of-self
invariant_of-self g c =
    let small = c.steps-steps.ensures.within in
    rw (angle_is c.self.inside.names c.self.inside.inputs c.self.inside.links
    c.self.inside.labels.items c.args.v c.index_mut.result.now c.index_mut.ensures.value _)
    (built_angle _ _ c.self.inside.links c.args.v _ c.self.invariant
    (rw c.steps-steps.ensures.steps at small))
