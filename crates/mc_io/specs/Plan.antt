-- Calls that fail by their numbers.
use Rattle.std.specs.Prelude.{ℕ, ◌+◌, ◌-◌, ◌^◌, ◌<◌, List, min, Result}
use Rattle.std.specs.List.{Contains}
use Rattle.mc_io.specs.Faults.{faults_after}

-- the numbers of the calls that fail, the number of the next call, and how many calls failed
pub record Plan : Type 0 where
  pub failing : List ℕ
  pub call : ℕ
  pub faults : ℕ

-- the plan before the first call, which has the number 0
abbrev pub plan_of : List ℕ → Plan
plan_of failing = record { failing = failing; call = 0; faults = 0 }

-- the number of calls stops at the greatest `u32`
abbrev pub last_call : ℕ
last_call = 2 ^ 32 - 1

-- the next call is one of those that fail; none is from the last number on
abbrev pub IsDueToFail : Plan → Type 0
IsDueToFail plan = (plan.call < last_call) × Contains plan.failing plan.call

-- the plan behind a call with this answer
abbrev pub plan_after : {T E : Type 0} → Plan → Result T E → Plan
plan_after plan result = record {
  failing = plan.failing;
  call = min (plan.call + 1) last_call;
  faults = faults_after plan.faults result;
}
