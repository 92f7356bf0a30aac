-- Rising lists by places, and toggling at the place where a number stands or goes.
use Rattle.std.proofs.Common.{◌≡◌, ℕ, zero, suc, ◌-◌, ◌<◌, ◌≤◌, List, [], ◌∷◌, length, get_or, drop}
use Rattle.std.proofs.Common.{insert, remove, refl, arith, Result, Ok, Err, nat_cmp}
use Rattle.std.specs.Prelude.{MatchResult}
use Rattle.std.specs.List.Sorted.{IsBinarySearchResult}
use Rattle.std.proofs.lemmas.List.Sorted.{searched}
use Rattle.std.proofs.lemmas.Bool.{lt-ltb, le-ltb, eq-eqb, ne_eqb}
use Rattle.mc_model.specs.Signals.{toggled, AllAbove, IsRising}

pub AllAbove-lower : (p q : ℕ) (ps : List ℕ) → p < q → AllAbove q ps → AllAbove p ps
AllAbove-lower p q [] lt above = tt
AllAbove-lower p q (r ∷ ps) lt above =
    (let a = above.0 in omega arith, AllAbove-lower p q ps lt above.1)

pub AllAbove-at : (q : ℕ) (ps : List ℕ) (k : ℕ) → AllAbove q ps → k < length ps → q < get_or ps k 0
AllAbove-at q [] k above lt = absurd (omega arith)
AllAbove-at q (p ∷ ps) zero above lt = above.0
AllAbove-at q (p ∷ ps) (suc k) above lt = AllAbove-at q ps k above.1 (omega arith)

pub rising_at : (ps : List ℕ) (i j : ℕ) → IsRising ps → i ≤ j → j < length ps
    → get_or ps i 0 ≤ get_or ps j 0
rising_at [] i j rising le lt = absurd (omega arith)
rising_at (p ∷ ps) zero zero rising le lt = omega arith
rising_at (p ∷ ps) zero (suc j) rising le lt =
    let above = AllAbove-at p ps j rising.0 (omega arith) in
    omega arith
rising_at (p ∷ ps) (suc i) zero rising le lt = absurd (omega arith)
rising_at (p ∷ ps) (suc i) (suc j) rising le lt =
    rising_at ps i j rising.1 (omega arith) (omega arith)

pub rising_drop : (i : ℕ) (ps : List ℕ) → IsRising ps → IsRising (drop i ps)
rising_drop zero ps rising = rising
rising_drop (suc i) [] rising = tt
rising_drop (suc i) (p ∷ ps) rising = rising_drop i ps rising.1

-- a number that stands at a place is taken out there
pub toggled-member : (q : ℕ) (ps : List ℕ) (i : ℕ) → IsRising ps → i < length ps → get_or ps i 0 ≡ q
    → toggled q ps ≡ remove ps i
unfolding toggled
toggled-member q [] i rising lt at = absurd (omega arith)
toggled-member q (p ∷ ps) zero rising lt at =
    let not_below = le-ltb q p (omega arith) in
    let same = eq-eqb q p (omega arith) in
    rw (not_below, same) refl
toggled-member q (p ∷ ps) (suc i) rising lt at =
    let above : p < get_or ps i 0 = AllAbove-at p ps i rising.0 (omega arith) in
    let not_below = le-ltb q p (omega arith) in
    let other = ne_eqb q p (λ e. absurd (omega arith)) in
    rw (not_below, other, toggled-member q ps i rising.1 (omega arith) at) refl

-- a number that stands nowhere is put where the greater ones begin
pub toggled-new : (q : ℕ) (ps : List ℕ) (i : ℕ) → i ≤ length ps
    → ((k : ℕ) → k < i → get_or ps k 0 < q)
    → ((k : ℕ) → i ≤ k → k < length ps → q < get_or ps k 0)
    → toggled q ps ≡ insert ps i q
unfolding toggled
toggled-new q [] zero le below above = refl
toggled-new q [] (suc i) le below above = absurd (omega arith)
toggled-new q (p ∷ ps) zero le below above =
    let less : q < p = above 0 (omega arith) (omega arith) in
    rw (lt-ltb q p less) refl
toggled-new q (p ∷ ps) (suc i) le below above =
    let more : p < q = below 0 (omega arith) in
    let not_below = le-ltb q p (omega arith) in
    let other = ne_eqb q p (λ e. absurd (omega arith)) in
    rw (
      not_below,
      other,
      toggled-new q ps i (omega arith) (λ k l. below (suc k) (omega arith))
          (λ k l m. above (suc k) (omega arith) (omega arith)),
    ) refl

-- a number above the last one goes last
pub toggled-last : (q : ℕ) (ps : List ℕ) → IsRising ps
    → (0 < length ps → get_or ps (length ps - 1) 0 < q)
    → toggled q ps ≡ insert ps (length ps) q
toggled-last q ps rising below =
    toggled-new q ps (length ps) (omega arith)
    (λ k lt.
    let le = rising_at ps k (length ps - 1) rising (omega arith) (omega arith) in
    let less = below (omega arith) in
    omega arith)
    (λ k le lt. absurd (omega arith))

toggled_by : (q : ℕ) (ps : List ℕ) (r : Result ℕ ℕ) → IsRising ps
    → MatchResult r (λ i. (i < length ps) × (get_or ps i 0 ≡ q))
    (λ i. (i ≤ length ps) × ((k : ℕ) → k < i → get_or ps k 0 < q)
    × ((k : ℕ) → i ≤ k → k < length ps → q < get_or ps k 0))
    → MatchResult r (λ i. (i < length ps) × (toggled q ps ≡ remove ps i))
    (λ i. (i ≤ length ps) × (toggled q ps ≡ insert ps i q))
toggled_by q ps (Ok i) rising found = (found.0, toggled-member q ps i rising found.0 found.1)
toggled_by q ps (Err i) rising found = (found.0, toggled-new q ps i found.0 found.1 found.2)

-- the place that a search finds
pub toggled-searched : (q : ℕ) (ps : List ℕ) (r : Result ℕ ℕ) → IsRising ps
    → IsBinarySearchResult (λ p. nat_cmp p q) ps r
    → MatchResult r (λ i. (i < length ps) × (toggled q ps ≡ remove ps i))
    (λ i. (i ≤ length ps) × (toggled q ps ≡ insert ps i q))
toggled-searched q ps r rising found =
    toggled_by q ps r rising (searched ps q r found (λ i j le lt. rising_at ps i j rising le lt))
