use Rattle.mc_graph.proofs.BuiltGraphs.{vertex_is, built_vertex}
use Rattle.mc_graph.proofs.builder.GraphBuilder.vertex.Goals as goal

pub returns-in-Ok-add-clause-added : goal.returns-in-Ok-add-clause-added
returns-in-Ok-add-clause-added g c =
    rw (← c.self.view_is, c.in-Ok-add.ensures.added, c.in-Ok.ensures.items)
    (vertex_is _ c.self.inside.names c.self.inside.inputs c.self.inside.links
    c.self.inside.labels.items c.args.name c.self.invariant)

pub invariant_of-self-in-Ok-add : goal.invariant_of-self-in-Ok-add
invariant_of-self-in-Ok-add g c =
    let valid = c.len-count.ensures.names in
    rw (
      c.in-Ok-add.ensures.added,
      c.in-Ok.ensures.items,
      vertex_is _ c.self.inside.names c.self.inside.inputs c.self.inside.links
          c.self.inside.labels.items c.args.name c.self.invariant,
    )
    (built_vertex _ _ c.self.inside.links c.args.name c.self.invariant
    (rw c.in-Ok-add.ensures.added at valid))
