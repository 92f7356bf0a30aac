-- Counts of faults: they never fall, and stop at the greatest `u64`.
use Rattle.std.specs.Prelude.{ℕ, ◌+◌, ◌-◌, ◌^◌, ◌≤◌, if◌then◌else◌, min, OnErr, Result, is_ok}

-- the count rose, or stands at its last value
abbrev pub Rose : ℕ → ℕ → Type 0
Rose before now = min (before + 1) (2 ^ 64 - 1) ≤ now

-- a call's count of faults never falls, and rose where the call failed
pub record HasCause {T E : Type 0} (before now : ℕ) (result : Result T E) : Type 0 where
  pub later : before ≤ now
  pub failed : OnErr result (Rose before now)

-- one more fault, up to the last value
abbrev pub one_more_fault : ℕ → ℕ
one_more_fault faults = min (faults + 1) (2 ^ 64 - 1)

-- the count behind a call: one more where the call failed
abbrev pub faults_after : {T E : Type 0} → ℕ → Result T E → ℕ
faults_after faults result = if is_ok result then faults else one_more_fault faults
