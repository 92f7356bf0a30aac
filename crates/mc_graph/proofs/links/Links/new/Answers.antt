use Rattle.std.proofs.Common.{refl}
use Rattle.mc_graph.proofs.Joined.{no_links, links_start}
use Rattle.mc_graph.proofs.links.Links.new.Goals as goal

pub invariant_of-result : goal.invariant_of-result
invariant_of-result c =
    rw (c.in-Ok.ensures.items_if_clones_equal (λ y e. e)) (links_start 65536 refl)

pub returns-in-Ok-clause-none : goal.returns-in-Ok-clause-none
returns-in-Ok-clause-none c =
    rw (c.in-Ok.ensures.items_if_clones_equal (λ y e. e)) (no_links 65536)

pub returns-in-Ok-clause-valid : goal.returns-in-Ok-clause-valid
returns-in-Ok-clause-valid c =
    rw (c.in-Ok.ensures.items_if_clones_equal (λ y e. e)) (links_start 65536 refl)
