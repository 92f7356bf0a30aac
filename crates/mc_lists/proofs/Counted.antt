-- Lists with each number once.
use Rattle.std.proofs.Common.{◌≡◌, ℕ, ◌<◌, Bool, List, cond, ap, ◌∙◌}
use Rattle.mc_model.specs.Numbers.{ListsOnce}

pub ListsOnce-same : (n : ℕ) (p r : ℕ → Bool) (qs : List ℕ) → ((q : ℕ) → q < n → p q ≡ r q)
    → ListsOnce n p qs → ListsOnce n r qs
ListsOnce-same n p r qs same h = record {
  below = h.below;
  once = λ q lt. h.once q lt ∙ ap (λ (b : Bool). cond b 1 0) (same q lt);
}
