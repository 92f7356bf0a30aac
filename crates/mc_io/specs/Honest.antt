-- A source and a sink in memory that never fail.
use Rattle.std.specs.Prelude.{◌≡◌, ◌↔◌, ◌⊎◌, ℕ, ◌+◌, ◌<◌, List, ◌++◌, Bool, IsTrue, length}
use Rattle.std.specs.Prelude.{take}
use Rattle.std.specs.Prelude.{min, Option, Some, None, Result, IsOkAnd, if◌then◌else◌}

-- one read: it gives as much as there is and the buffer holds
abbrev pub HonestReads : {E : Type 0} → List ℕ → List ℕ → Result ℕ E → List ℕ → Type 0
HonestReads old buf result new =
    IsOkAnd result (λ n. (n ≡ min (length buf) (length old)) × (old ≡ take n buf ++ new))

-- the first bytes that were written, the room for them, and whether any was dropped
pub record Kept : Type 0 where
  pub kept : List ℕ
  pub room : ℕ
  pub dropped : Bool

-- what was written, as long as nothing was dropped
abbrev pub told : Kept → Option (List ℕ)
told sink = if sink.dropped then None else Some sink.kept

-- one write: it takes the whole part, and drops what is past the room
pub record HonestWrites {E : Type 0} (old : Kept) (part : List ℕ) (result : Result ℕ E) (new : Kept)
    : Type 0 where
  pub count : IsOkAnd result (λ n. n ≡ length part)
  pub kept : new.kept ≡ take old.room (old.kept ++ part)
  pub dropped : IsTrue new.dropped
      ↔ (IsTrue old.dropped ⊎ (old.room < length old.kept + length part))
  pub room : new.room ≡ old.room
