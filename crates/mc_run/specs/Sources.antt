-- Vectors of entries, and where the entries behind a step come from.
use Rattle.std.specs.Prelude.{◌≡◌, ℕ, ◌+◌, ◌*◌, ◌/◌, ◌^◌, ◌<◌, ◌≤◌, Bool, false, true, cond}
use Rattle.std.specs.Prelude.{not}
use Rattle.std.specs.Prelude.{◌&&◌, ℤ, List, [], length, slice_index_or, ⊤}
use Rattle.mc_model.specs.Bits.{◌⊻◌}
use Rattle.mc_model.specs.Amplitude.{Amps}
use Rattle.mc_run.specs.Exact.{Exact}
use Rattle.mc_run.specs.Settings.{is_odd, setting, digit, with_digit, with_more}
use Rattle.mc_run.specs.declared.source.Source.{Source}
use Rattle.mc_run.specs.declared.source.Source.TheVariants.{Nought, Turned, Sum}
use Rattle.mc_run.specs.declared.step.Step.{Step}
use Rattle.mc_run.specs.declared.step.Step.TheVariants.{Input, Prep, Ent, X, Z, J, Meas}

-- the entry at a place
abbrev pub entry : List (List ℤ) → ℕ → List ℤ
entry v i = slice_index_or v i []

-- what is taken from a source
abbrev pub taken : Exact → List (List ℤ) → Source → List ℤ
taken ring v Nought = ring.nought
taken ring v (Turned i k) = ring.turned k (entry v i)
taken ring v (Sum i j k) = ring.sum (entry v i) (ring.turned k (entry v j))

-- the places are there, and a sum stays low
abbrev pub CanTake : (List ℤ → ℕ) → List (List ℤ) → Source → Type 0
CanTake height v Nought = ⊤
CanTake height v (Turned i k) = i < length v
CanTake height v (Sum i j k) =
    (i < length v) × (j < length v) × (height (entry v i) + height (entry v j) ≤ 2 ^ 60)

-- half a turn where a bit is 1
abbrev pub half_where : ℕ → Bool → ℕ
half_where half b = cond b half 0

-- the weights and steps of a step are numbers that stay in their types
abbrev pub IsSmallWeight : ℕ → Type 0
IsSmallWeight w = (0 < w) × (w ≤ 2 ^ 32)

abbrev pub IsSmall : Step → Type 0
IsSmall (Input b) = ⊤
IsSmall Prep = ⊤
IsSmall (Ent v w) = IsSmallWeight v × IsSmallWeight w
IsSmall (X w acts) = IsSmallWeight w
IsSmall (Z w acts) = IsSmallWeight w
IsSmall (J w k) = IsSmallWeight w × (k ≤ 2 ^ 16)
IsSmall (Meas w k) = IsSmallWeight w × (k ≤ 2 ^ 16)

-- so many entries are pairs that a digit of that weight tells apart
abbrev pub ArePairs : ℕ → ℕ → Type 0
ArePairs n w = (pairs : ℕ) × (n ≡ pairs * (2 * w))

-- a vector of `n` entries is as long as the step asks for, of which `count` are left
abbrev pub IsLongFor : Step → ℕ → ℕ → Type 0
IsLongFor (Input b) n count = ⊤
IsLongFor Prep n count = ⊤
IsLongFor (Ent v w) n count = n ≡ count
IsLongFor (X w acts) n count = (n ≡ count) × ArePairs n w
IsLongFor (Z w acts) n count = n ≡ count
IsLongFor (J w k) n count = (n ≡ count) × ArePairs n w
IsLongFor (Meas w k) n count = (n ≡ 2 * count) × ArePairs n w

-- the step adds a qubit
abbrev pub IsGrowth : Step → Type 0
IsGrowth (Input b) = ⊤
IsGrowth Prep = ⊤
IsGrowth (Ent v w) = ⊥
IsGrowth (X w acts) = ⊥
IsGrowth (Z w acts) = ⊥
IsGrowth (J w k) = ⊥
IsGrowth (Meas w k) = ⊥

-- where the entry at a place comes from
abbrev pub source : ℕ → Step → ℕ → Source
source half (Input b) i = cond (not (b ⊻ is_odd i)) (Turned (i / 2) 0) Nought
source half Prep i = Turned (i / 2) 0
source half (Ent v w) i = Turned i (half_where half (digit v i && digit w i))
source half (X w acts) i = Turned (with_digit w (digit w i ⊻ acts) i) 0
source half (Z w acts) i = Turned i (half_where half (digit w i && acts))
source half (J w k) i =
    Sum (with_digit w false i) (with_digit w true i) (k + half_where half (digit w i))
source half (Meas w k) i = Sum (with_more w false i) (with_more w true i) k

-- each entry is an element, and the one that is taken
pub record IsStepped (ring : Exact) (Is : List ℤ → Type 0) (step : Step)
    (v next : List (List ℤ)) : Type 0 where
  pub same : (i : ℕ) → i < length next → entry next i ≡ taken ring v (source ring.half step i)
  pub element : (i : ℕ) → i < length next → Is (entry next i)

-- a vector of the amplitudes at the settings of the live qubits, each of a height of at most
-- `2 ^ height`
pub record Holds (ring : Exact) (Is : List ℤ → Type 0) (live : List ℕ) (height : ℕ)
    (f : Amps (List ℤ)) (v : List (List ℤ)) : Type 0 where
  pub long : length v ≡ 2 ^ length live
  pub same : (i : ℕ) → i < length v → entry v i ≡ f (setting live i)
  pub element : (i : ℕ) → i < length v → Is (entry v i)
  pub low : (i : ℕ) → i < length v → ring.height (entry v i) ≤ 2 ^ height
