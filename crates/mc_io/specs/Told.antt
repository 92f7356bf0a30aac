-- What a source has left and a sink was given, where they tell it.
use Rattle.std.specs.Prelude.{◌≡◌, ℕ, List, [], ◌++◌, length, take, ⊤, ◌≤◌, ◌<◌, Option, None, Some}
use Rattle.std.specs.Prelude.{Result, MatchResult, IfOk}
use Rattle.std.specs.Io.KnownBytes.{Consumes}

-- a source tells what is left after a call exactly where it did before
abbrev pub TellsAsBefore : Option (List ℕ) → Option (List ℕ) → Type 0
TellsAsBefore None None = ⊤
TellsAsBefore (Some xs) (Some ys) = ⊤
TellsAsBefore None (Some ys) = ⊥
TellsAsBefore (Some xs) None = ⊥

-- so many bytes were taken from the front of what was left
abbrev pub Takes : Option (List ℕ) → Option (List ℕ) → ℕ → Type 0
Takes old new n = (bytes : List ℕ) × (length bytes ≡ n) × Consumes old new bytes

-- at most so many bytes were taken from the front of what was left
abbrev pub TakesAtMost : Option (List ℕ) → Option (List ℕ) → ℕ → Type 0
TakesAtMost old new most = (bytes : List ℕ) × (length bytes ≤ most) × Consumes old new bytes

-- a sink that tells what was written has it from before the call, and bs behind it
abbrev pub AppendsWhereTold : Option (List ℕ) → Option (List ℕ) → List ℕ → Type 0
AppendsWhereTold old None bs = ⊤
AppendsWhereTold None (Some ys) bs = ⊥
AppendsWhereTold (Some xs) (Some ys) bs = ys ≡ xs ++ bs

-- a prefix of bs was appended
abbrev pub AppendsPrefix : Option (List ℕ) → Option (List ℕ) → List ℕ → Type 0
AppendsPrefix old new bs = (n : ℕ) × (n ≤ length bs) × AppendsWhereTold old new (take n bs)

-- `write(part)` appended the first n bytes at `Ok(n)`, and nothing at `Err`
abbrev pub WritesPart : {E : Type 0}
    → Option (List ℕ) → Option (List ℕ) → Result ℕ E → List ℕ → Type 0
WritesPart old new result part =
    MatchResult result
    (λ n. AppendsWhereTold old new (take n part))
    (λ _. AppendsWhereTold old new [])

-- the count of a write: at most the part's length, and at least 1 where the part is not empty
abbrev pub CountsPart : {E : Type 0} → Result ℕ E → List ℕ → Type 0
CountsPart result part = IfOk result (λ n. (n ≤ length part) × (0 < length part → 0 < n))
