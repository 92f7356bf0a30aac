-- Places in a vector of amplitudes: the settings of the live qubits that they spell.
use Rattle.std.specs.Prelude.{ℕ, zero, suc, ◌+◌, ◌*◌, ◌/◌, ◌%◌, ◌^◌, Bool, not, cond, nat_eq, List}
use Rattle.std.specs.Prelude.{[], ◌∷◌, length}
use Rattle.std.specs.List.{prefix_len}
use Rattle.mc_model.specs.Bits.{Bits, all_zero, replaced}

-- the numbers below `n`, the last first
abbrev pub numbers_below : ℕ → List ℕ
numbers_below zero = []
numbers_below (suc n) = n ∷ numbers_below n

abbrev pub is_odd : ℕ → Bool
is_odd n = nat_eq (n % 2) 1

-- the last `n` binary digits of a number, the most significant first
abbrev pub spelled : ℕ → ℕ → List Bool
spelled zero y = []
spelled (suc n) y = is_odd (y / 2 ^ n) ∷ spelled n y

-- the setting that a place spells on the live qubits, the first of them by its least significant
-- digit, and 0 elsewhere
abbrev pub setting : List ℕ → ℕ → Bits
setting [] i = all_zero
setting (q ∷ qs) i = replaced (setting qs (i / 2)) q (is_odd i)

-- where a qubit stands among the live ones
abbrev pub place : List ℕ → ℕ → ℕ
place live q = prefix_len (λ r. not (nat_eq r q)) live

-- the weight of a live qubit's digit
abbrev pub weight : List ℕ → ℕ → ℕ
weight [] q = 1
weight (r ∷ rs) q = cond (nat_eq q r) 1 (2 * weight rs q)

-- the live qubits without one
abbrev pub without : List ℕ → ℕ → List ℕ
without [] q = []
without (r ∷ rs) q = cond (nat_eq q r) rs (r ∷ without rs q)

-- the digit of a weight
abbrev pub digit : ℕ → ℕ → Bool
digit w i = is_odd (i / w)

-- the place with that digit as it is told
abbrev pub with_digit : ℕ → Bool → ℕ → ℕ
with_digit w b i = i / (2 * w) * (2 * w) + cond b w 0 + i % w

-- the place with a further digit of that weight
abbrev pub with_more : ℕ → Bool → ℕ → ℕ
with_more w b i = i / w * (2 * w) + cond b w 0 + i % w

-- the place that spells the last digits of a number on the listed qubits, and 0 elsewhere
abbrev pub place_spelled : List ℕ → List ℕ → ℕ → ℕ
place_spelled live [] y = 0
place_spelled live (q ∷ qs) y =
    with_digit (weight live q) (is_odd (y / 2 ^ length qs)) (place_spelled live qs y)
