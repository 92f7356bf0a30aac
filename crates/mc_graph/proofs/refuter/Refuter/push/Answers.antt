use Rattle.std.proofs.Common.{map, sym, ◌∙◌}
use Rattle.std.proofs.lemmas.List.{map-append}
use Rattle.mc_graph.specs.Kept.{refuter_line}
use Rattle.mc_graph.proofs.OwnVertices.{own_more}
use Rattle.mc_graph.proofs.refuter.Refuter.push.Goals as goal

pub invariant_of-self-2 : goal.invariant_of-self-2
invariant_of-self-2 c =
    let new = rw (← c.self.view_is) at c.has.ensures in
    rw (c.in-Ok.ensures.items, map-append)
    (own_more (λ r. r.vertex) (map refuter_line c.self.inside.rows.items) _ c.self.invariant
    (sym new ∙ c.if-has.false))
