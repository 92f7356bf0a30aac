use Rattle.std.proofs.Common.{refl, ◌∙◌, ap, arith, suc, ◌+◌, ◌≡◌, ◌∷◌, ◌++◌, [], List, ℕ}
use Rattle.mc_model.proofs.NumberLists.{numbers_from-last}
use Rattle.mc_translate.proofs.wires.in_order.Goals as goal

pub numbers-preserved : goal.numbers-preserved
numbers-preserved c =
    let n : ℕ = c.numbers.number in
    let one : n + 1 ≡ suc n = omega arith in
    let here : 0 + n ≡ n = omega arith in
    c.in-Ok.ensures.items
    ∙ ap (λ (qs : List ℕ). qs ++ (n ∷ [])) c.numbers.invariant
    ∙ rw (one, numbers_from-last 0 n, here) refl
