use Rattle.std.proofs.Common.{◌∙◌, sym, ap₂, List, [], ◌∷◌, ◌++◌, ℕ}
use Rattle.mc_graph.specs.Flows.{next_in}
use Rattle.mc_extract.proofs.FinderLemmas.{map_more}
use Rattle.mc_extract.proofs.nexts.nexts_of.Goals as goal

pub vertices-preserved : goal.vertices-preserved
vertices-preserved c =
    c.in-Ok.ensures.items
    ∙ ap₂ (λ (xs : List ℕ) (x : ℕ). xs ++ (x ∷ [])) c.vertices.invariant c.next_of.ensures
    ∙ sym (map_more (next_in c.args.f.now.rows) c.vertices.v)
