use Rattle.std.proofs.Common.{◌≡◌, ℕ, suc, ◌+◌, List, [], ◌∷◌, ◌++◌, ◌∙◌, ap, sym, arith}
use Rattle.mc_model.specs.Numbers.{numbers_from}
use Rattle.mc_model.proofs.NumberLists.{numbers_below-last}
use Rattle.mc_gates.proofs.named.in_order.Goals as goal

pub numbers-preserved : goal.numbers-preserved
numbers-preserved c =
    let n : ℕ = c.numbers.number in
    let one : suc n ≡ n + 1 = omega arith in
    c.in-Ok.ensures.items
    ∙ ap (λ (qs : List ℕ). qs ++ (n ∷ [])) c.numbers.invariant
    ∙ sym (numbers_below-last n)
    ∙ ap (λ (k : ℕ). numbers_from 0 k) one
