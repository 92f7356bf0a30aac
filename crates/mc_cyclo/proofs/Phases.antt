-- Phases entry by entry.
use Rattle.std.proofs.Common.{◌≡◌, ℕ, zero, suc, ◌<◌, ℤ, List, [], ◌∷◌, length, map, refl, arith}
use Rattle.std.proofs.Common.{ap, ap₂, ◌∙◌, slice_index_or}
use Rattle.mc_model.specs.Ring.{rotated, rotations}
use Rattle.mc_cyclo.specs.Phase.{IsPhase}

pub phase_by_entries : (k : ℕ) (a b : List (List ℤ)) → length a ≡ length b →
    ((j : ℕ) → j < length a → slice_index_or a j [] ≡ rotations k (slice_index_or b j [])) →
    IsPhase a b k
phase_by_entries k [] [] e h = refl
phase_by_entries k [] (y ∷ ys) e h = absurd (omega arith)
phase_by_entries k (x ∷ xs) [] e h = absurd (omega arith)
phase_by_entries k (x ∷ xs) (y ∷ ys) e h =
    ap₂ (λ z zs. z ∷ zs) (h 0 (omega arith))
    (phase_by_entries k xs ys (omega arith) (λ j l. h (suc j) (omega arith)))

nothing : (k : ℕ) → rotations k [] ≡ []
nothing zero = refl
nothing (suc k) = ap rotated (nothing k)

entry_of : (k : ℕ) (b : List (List ℤ)) (j : ℕ) →
    slice_index_or (map (rotations k) b) j [] ≡ rotations k (slice_index_or b j [])
entry_of k [] j = let e = nothing k in cc
entry_of k (y ∷ ys) zero = refl
entry_of k (y ∷ ys) (suc j) = entry_of k ys j

pub phase_at : (k : ℕ) (a b : List (List ℤ)) (j : ℕ) → IsPhase a b k →
    slice_index_or a j [] ≡ rotations k (slice_index_or b j [])
phase_at k a b j e = ap (λ t. slice_index_or t j []) e ∙ entry_of k b j
