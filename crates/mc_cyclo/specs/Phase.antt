-- Phases between lists of elements.
use Rattle.std.specs.Prelude.{◌≡◌, ℕ, ◌*◌, ◌<◌, List, ℤ, map, Option, MatchOption}
use Rattle.mc_model.specs.Ring.{rotations}

-- entry by entry, `a` is `w ^ k` times `b`
abbrev pub IsPhase : List (List ℤ) → List (List ℤ) → ℕ → Type 0
IsPhase a b k = a ≡ map (rotations k) b

-- the least power of `w`, below a whole turn, by which `b` is `a`, or there is none
abbrev pub IsLeastPhase : ℕ → List (List ℤ) → List (List ℤ) → Option ℕ → Type 0
IsLeastPhase half a b phase =
    MatchOption phase ((k : ℕ) → k < 2 * half → ¬ IsPhase a b k)
    (λ k. (k < 2 * half) × IsPhase a b k × ((j : ℕ) → j < k → ¬ IsPhase a b j))
