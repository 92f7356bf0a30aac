-- The sum of two rising lists, number by number from the front.
use Rattle.std.proofs.Common.{◌≡◌, ℕ, ◌+◌, ◌<◌, ◌≤◌, List, [], ◌∷◌, ◌++◌, length, get_or, drop}
use Rattle.std.proofs.Common.{refl, ◌∙◌, ap, arith, add-one, append_assoc, ◌⊎◌, inl, inr}
use Rattle.std.proofs.Math.Seq.{drop-cons}
use Rattle.std.proofs.lemmas.List.{drop_all, append-nil}
use Rattle.std.proofs.lemmas.Bool.{lt-ltb, le-ltb, eq-eqb, ne_eqb}
use Rattle.mc_model.specs.Signals.{toggled, toggled_all, AllAbove, IsRising}
use Rattle.mc_model.proofs.SignalLemmas.{toggled_all_rising}
use Rattle.mc_signal.proofs.Rising.{AllAbove-lower, rising_drop}

toggled-least : (q : ℕ) (ps : List ℕ) → AllAbove q ps → toggled q ps ≡ q ∷ ps
unfolding toggled
toggled-least q [] above = refl
toggled-least q (p ∷ ps) above = rw (lt-ltb q p above.0) refl

toggled-first : (q : ℕ) (ps : List ℕ) → toggled q (q ∷ ps) ≡ ps
unfolding toggled
toggled-first q ps = rw (le-ltb q q (omega arith), eq-eqb q q refl) refl

toggled_all-least : (q : ℕ) (ps qs : List ℕ) → AllAbove q ps
    → toggled_all ps (q ∷ qs) ≡ q ∷ toggled_all ps qs
unfolding toggled toggled_all
toggled_all-least q [] qs above = refl
toggled_all-least q (p ∷ ps) qs above =
    let less = above.0 in
    let not_below = le-ltb p q (omega arith) in
    let other = ne_eqb p q (λ e. absurd (omega arith)) in
    rw (toggled_all-least q ps qs above.1, not_below, other) refl

toggled_all-above : (q : ℕ) (ps qs : List ℕ) → AllAbove q ps → AllAbove q qs → IsRising qs
    → AllAbove q (toggled_all ps qs)
toggled_all-above q ps qs above_ps above_qs rising =
    let all : IsRising (q ∷ toggled_all ps qs) =
    rw (toggled_all-least q ps qs above_ps)
    at (toggled_all_rising ps (q ∷ qs) (above_qs, rising)) in
    all.0

-- the first number of the left is less than that of the right
left_first : (p q : ℕ) (ps qs : List ℕ) → IsRising (p ∷ ps) → IsRising (q ∷ qs) → p < q
    → toggled_all (p ∷ ps) (q ∷ qs) ≡ p ∷ toggled_all ps (q ∷ qs)
unfolding toggled_all
left_first p q ps qs left right less =
    toggled-least p (toggled_all ps (q ∷ qs))
    (toggled_all-above p ps (q ∷ qs) left.0 (less, AllAbove-lower p q qs less right.0) right)

right_first : (p q : ℕ) (ps qs : List ℕ) → IsRising (p ∷ ps) → q < p
    → toggled_all (p ∷ ps) (q ∷ qs) ≡ q ∷ toggled_all (p ∷ ps) qs
right_first p q ps qs left less =
    toggled_all-least q (p ∷ ps) qs (less, AllAbove-lower q p ps less left.0)

both_first : (p : ℕ) (ps qs : List ℕ) → IsRising (p ∷ ps)
    → toggled_all (p ∷ ps) (p ∷ qs) ≡ toggled_all ps qs
unfolding toggled_all
both_first p ps qs left =
    ap (toggled p) (toggled_all-least p ps qs left.0) ∙ toggled-first p (toggled_all ps qs)

pub toggled_all-nil : (ps : List ℕ) → IsRising ps → toggled_all ps [] ≡ ps
unfolding toggled_all
toggled_all-nil [] rising = refl
toggled_all-nil (p ∷ ps) rising = rw (toggled_all-nil ps rising.1) (toggled-least p ps rising.0)

pub nil-toggled_all : (qs : List ℕ) → toggled_all [] qs ≡ qs
unfolding toggled_all
nil-toggled_all qs = refl

drop_at : (ps : List ℕ) (i : ℕ) → i < length ps → drop i ps ≡ get_or ps i 0 ∷ drop (i + 1) ps
drop_at ps i lt = rw (add-one i) (drop-cons ps i 0 lt)

rising_from : (ps : List ℕ) (i : ℕ) → i < length ps → IsRising ps
    → IsRising (get_or ps i 0 ∷ drop (i + 1) ps)
rising_from ps i lt rising = rw (drop_at ps i lt) at (rising_drop i ps rising)

-- one step of the merge, by where the lesser of the two numbers stands
pub merge_left : (left right sum sum' total : List ℕ) (i j : ℕ) → IsRising left → IsRising right
    → i < length left → j < length right → get_or left i 0 < get_or right j 0
    → sum' ≡ sum ++ get_or left i 0 ∷ []
    → sum ++ toggled_all (drop i left) (drop j right) ≡ total
    → sum' ++ toggled_all (drop (i + 1) left) (drop j right) ≡ total
merge_left left right sum sum' total i j l r il jr less pushed same =
    let step : toggled_all (drop i left) (drop j right)
    ≡ get_or left i 0 ∷ toggled_all (drop (i + 1) left) (drop j right) =
    rw (drop_at left i il, drop_at right j jr)
    (left_first (get_or left i 0) (get_or right j 0) (drop (i + 1) left) (drop (j + 1) right)
    (rising_from left i il l) (rising_from right j jr r) less) in
    rw (pushed, append_assoc) (rw step at same)

pub merge_right : (left right sum sum' total : List ℕ) (i j : ℕ) → IsRising left
    → i < length left → j < length right → get_or right j 0 < get_or left i 0
    → sum' ≡ sum ++ get_or right j 0 ∷ []
    → sum ++ toggled_all (drop i left) (drop j right) ≡ total
    → sum' ++ toggled_all (drop i left) (drop (j + 1) right) ≡ total
merge_right left right sum sum' total i j l il jr less pushed same =
    let step : toggled_all (drop i left) (drop j right)
    ≡ get_or right j 0 ∷ toggled_all (drop i left) (drop (j + 1) right) =
    rw (drop_at left i il, drop_at right j jr)
    (right_first (get_or left i 0) (get_or right j 0) (drop (i + 1) left) (drop (j + 1) right)
    (rising_from left i il l) less) in
    rw (pushed, append_assoc) (rw step at same)

pub merge_both : (left right : List ℕ) (i j : ℕ) → IsRising left
    → i < length left → j < length right → get_or left i 0 ≡ get_or right j 0
    → toggled_all (drop i left) (drop j right)
    ≡ toggled_all (drop (i + 1) left) (drop (j + 1) right)
merge_both left right i j l il jr same =
    rw (drop_at left i il, drop_at right j jr, ← same)
    (both_first (get_or left i 0) (drop (i + 1) left) (drop (j + 1) right)
    (rising_from left i il l))

-- what is left of one list goes behind, where nothing is left of the other
pub merge_end : (left right sum total : List ℕ) (i j : ℕ) → IsRising left
    → (length left ≤ i) ⊎ (length right ≤ j)
    → sum ++ toggled_all (drop i left) (drop j right) ≡ total
    → (sum ++ drop i left) ++ drop j right ≡ total
merge_end left right sum total i j l (inl none) same =
    rw (drop_all i left none, append-nil sum) (rw (drop_all i left none, nil-toggled_all) at same)
merge_end left right sum total i j l (inr none) same =
    rw (drop_all j right none, append-nil)
    (rw (drop_all j right none, toggled_all-nil (drop i left) (rising_drop i left l)) at same)
