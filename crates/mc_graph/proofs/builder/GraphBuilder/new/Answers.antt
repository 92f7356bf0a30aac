use Rattle.mc_graph.proofs.BuiltGraphs.{begun_is, built_start}
use Rattle.mc_graph.proofs.builder.GraphBuilder.new.Goals as goal

pub returns-in-Ok : goal.returns-in-Ok
returns-in-Ok g c =
    rw (c.in-Ok.ensures.items_if_clones_equal (λ y e. e), c.len-count.ensures.len)
    (begun_is _ c.args.inputs c.in_ok-links.links c.in_ok-links.ensures.none)

pub invariant_of-result : goal.invariant_of-result
invariant_of-result g c =
    rw (returns-in-Ok g c)
    (built_start _ c.args.inputs c.in_ok-links.links c.len-count.ensures.names c.requires
    c.in_ok-links.ensures.none c.in_ok-links.ensures.valid)
