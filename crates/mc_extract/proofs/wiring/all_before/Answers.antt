use Rattle.std.proofs.Common.{List, [], ◌∷◌, ◌++◌, ◌∙◌, sym, ap₂}
use Rattle.std.specs.Prelude.{ℕ, Option}
use Rattle.mc_model.specs.Made.{last_before}
use Rattle.mc_extract.specs.Chains.{number_at}
use Rattle.mc_extract.proofs.FinderLemmas.{map_more}
use Rattle.mc_extract.proofs.wiring.all_before.Goals as goal

pub vertices-preserved : goal.vertices-preserved
vertices-preserved g c =
    c.in-Ok.ensures.items
    ∙ ap₂ (λ (os : List (Option ℕ)) (o : Option ℕ). os ++ (o ∷ [])) c.vertices.invariant
    c.before_one-one.ensures
    ∙ sym (map_more (last_before c.args.g.now (number_at c.args.next.now))
    c.vertices.v)
