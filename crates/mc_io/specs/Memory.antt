-- A source and a sink in memory, whose calls fail by a plan.
use Rattle.std.specs.Prelude.{◌≡◌, ◌↔◌, ◌⊎◌, ℕ, ◌-◌, ◌<◌, ◌≤◌, List, ◌++◌, length, take}
use Rattle.std.specs.Prelude.{min}
use Rattle.std.specs.Prelude.{Result, MatchResult, IfOk, IsErr}
use Rattle.mc_io.specs.Plan.{Plan, IsDueToFail, plan_after}

-- a source: the bytes that are left, the most that a call gives, and the plan
pub record SourceState : Type 0 where
  pub left : List ℕ
  pub piece : ℕ
  pub plan : Plan

-- one read: what it answers, and what it leaves
pub record MemReads {E : Type 0}
    (old : SourceState) (buf : List ℕ) (result : Result ℕ E) (new : SourceState) : Type 0 where
  pub fails : IsErr result ↔ IsDueToFail old.plan
  pub count : IfOk result (λ n. n ≡ min old.piece (min (length buf) (length old.left)))
  pub left : MatchResult result (λ n. old.left ≡ take n buf ++ new.left) (λ _. new.left ≡ old.left)
  pub piece : new.piece ≡ old.piece
  pub plan : new.plan ≡ plan_after old.plan result

-- a sink: the bytes that were written, its room, the most that a call takes, and the plan
pub record SinkState : Type 0 where
  pub kept : List ℕ
  pub room : ℕ
  pub piece : ℕ
  pub plan : Plan

-- the part is not empty and no room is left
abbrev pub IsWithoutRoom : SinkState → List ℕ → Type 0
IsWithoutRoom sink part = (0 < length part) × (sink.room ≤ length sink.kept)

-- one write: what it answers, and what it leaves
pub record MemWrites {E : Type 0}
    (old : SinkState) (part : List ℕ) (result : Result ℕ E) (new : SinkState) : Type 0 where
  pub fails : IsErr result ↔ (IsDueToFail old.plan ⊎ IsWithoutRoom old part)
  pub count : IfOk result (λ n. n ≡ min old.piece (min (length part) (old.room - length old.kept)))
  pub kept : MatchResult result (λ n. new.kept ≡ old.kept ++ take n part) (λ _. new.kept ≡ old.kept)
  pub room : new.room ≡ old.room
  pub piece : new.piece ≡ old.piece
  pub plan : new.plan ≡ plan_after old.plan result
