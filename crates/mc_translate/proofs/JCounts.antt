-- The number of `J` gates as a count.
use Rattle.std.proofs.Common.{◌≡◌, ℕ, ◌+◌, List, [], ◌∷◌, refl, arith, map, length, ◌≤◌}
use Rattle.std.specs.Prelude.{cond, count_by}
use Rattle.std.proofs.lemmas.List.Sums.{sum_by-cons}
use Rattle.mc_model.specs.Pattern.{Gate, J, CZ}
use Rattle.mc_model.specs.Amplitude.{j_count}
use Rattle.mc_translate.specs.Qubits.{is_j}

counted_by : {G : Type 0} (plain : G → Gate) (gate : Gate) (n m : ℕ) (gates : List Gate) →
    n ≡ cond (is_j gate) 1 0 + m → m ≡ j_count gates → n ≡ j_count (gate ∷ gates)
unfolding j_count
counted_by plain (J v a) n m gates step rest = omega arith
counted_by plain (CZ v u) n m gates step rest = omega arith

pub j_count-map : {G : Type 0} (plain : G → Gate) (gs : List G) →
    count_by (λ g. is_j (plain g)) gs ≡ j_count (map plain gs)
unfolding j_count
j_count-map plain [] = refl
j_count-map plain (g ∷ gs) =
    counted_by plain (plain g) _ _ (map plain gs)
    (sum_by-cons (λ h. cond (is_j (plain h)) 1 0) g gs)
    (j_count-map plain gs)

pub few_j : (gates : List Gate) → j_count gates ≤ length gates
unfolding j_count
few_j [] = omega arith
few_j (J v a ∷ gates) = let h = few_j gates in omega arith
few_j (CZ v u ∷ gates) = let h = few_j gates in omega arith
