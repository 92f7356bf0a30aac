use Rattle.std.proofs.Common.{List, [], ◌∷◌, ◌++◌, ◌∙◌, sym, ap, ap₂, not}
use Rattle.mc_extract.specs.declared.found.Found.{Found}
use Rattle.mc_extract.specs.Finder.{found_after}
use Rattle.mc_extract.proofs.FinderLemmas.{map_more, begun_at}
use Rattle.mc_extract.proofs.finder.begun.Goals as goal

pub vertices-preserved : goal.vertices-preserved
vertices-preserved g c =
    let one = c.first_found-one.ensures in
    c.in-Ok.ensures.items
    ∙ ap₂ (λ (xs : List Found) (x : Found). xs ++ (x ∷ [])) c.vertices.invariant
    (begun_at c.args.g.now c.vertices.v c.first_found-one.result
    (one.left ∙ ap not c.is_output.ensures) one.layer one.next)
    ∙ sym (map_more (found_after c.args.g.now 0) c.vertices.v)
