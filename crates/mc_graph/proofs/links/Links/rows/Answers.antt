use Rattle.std.proofs.Common.{List, [], ◌∷◌, ◌++◌, ◌∙◌, sym, ap₂}
use Rattle.std.specs.Prelude.{ℕ}
use Rattle.std.proofs.lemmas.List.{map-append}
use Rattle.mc_model.specs.Numbers.{numbers_where}
use Rattle.mc_graph.specs.Links.{linked}
use Rattle.mc_graph.proofs.MappedReads.{map_more}
use Rattle.mc_graph.proofs.links.Links.rows.Goals as goal

pub vertices-preserved : goal.vertices-preserved
vertices-preserved c =
    rw (c.in-Ok.ensures.items, map-append)
    (ap₂ (λ (rows : List (List ℕ)) (row : List ℕ). rows ++ (row ∷ [])) c.vertices.invariant
    c.in_ok-row.ensures
    ∙ sym (map_more (λ v. numbers_where (linked c.args.self.now v) c.args.count) c.vertices.v))
