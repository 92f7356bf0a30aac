use Rattle.std.proofs.Common.{List, [], ◌∷◌, ◌++◌, ◌∙◌, sym, ap₂}
use Rattle.std.specs.Prelude.{ℕ, Option}
use Rattle.mc_extract.specs.Rounds.{taken_vertex}
use Rattle.mc_extract.specs.Finder.{left_in}
use Rattle.mc_extract.proofs.FinderLemmas.{map_more}
use Rattle.mc_extract.proofs.finder.all_taken.Goals as goal

pub vertices-preserved : goal.vertices-preserved
vertices-preserved g c =
    c.in-Ok.ensures.items
    ∙ ap₂ (λ (os : List (Option ℕ)) (o : Option ℕ). os ++ (o ∷ [])) c.vertices.invariant
    c.taken_by-one.ensures
    ∙ sym (map_more (taken_vertex c.args.g.now (left_in c.args.found.now))
    c.vertices.w)
