use Rattle.std.proofs.Common.{◌≡◌, ◌+◌, ◌∙◌, ℕ, suc, List, [], ◌∷◌, ◌++◌, ap, refl, arith}
use Rattle.mc_model.proofs.NumberLists.{numbers_from-last}
use Rattle.mc_compose.proofs.placing.row.Goals as goal

pub numbers-preserved : goal.numbers-preserved
numbers-preserved c =
    let n : ℕ = c.numbers.k in
    let one : n + 1 ≡ suc n = omega arith in
    c.in-Ok.ensures.items
    ∙ ap (λ (qs : List ℕ). qs ++ ((c.args.start + n) ∷ [])) c.numbers.invariant
    ∙ rw (one, numbers_from-last c.args.start n) refl
