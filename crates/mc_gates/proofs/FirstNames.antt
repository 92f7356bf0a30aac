-- The first names of a list.
use Rattle.std.proofs.Common.{◌≡◌, ℕ, ◌+◌, List, [], ◌∷◌, ◌++◌, ◌∙◌, ap, take, Some}
use Rattle.std.specs.Prelude.{slice_get}
use Rattle.std.proofs.lemmas.List.{take_more}
use Rattle.std.proofs.lemmas.Option.{slice_get_within, get_or_from_slice_get}
use Rattle.mc_model.specs.Names.{Name}

-- one more
pub take_next : (names : List Name) (i : ℕ) (name : Name) → slice_get names i ≡ Some name
    → take (i + 1) names ≡ take i names ++ (name ∷ [])
take_next names i name e =
    take_more names i [] (slice_get_within names i name e)
    ∙ ap (λ (n : Name). take i names ++ (n ∷ [])) (get_or_from_slice_get names i name [] e)
