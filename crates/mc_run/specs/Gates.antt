-- The steps of gates and of commands.
use Rattle.std.specs.Prelude.{◌≡◌, ℕ, ◌+◌, ◌^◌, ◌<◌, ◌≤◌, true, ℤ, List, ◌∷◌, length, All}
use Rattle.std.specs.Prelude.{⊤}
use Rattle.mc_model.specs.Bits.{Bits}
use Rattle.mc_model.specs.Numbers.{is_member}
use Rattle.mc_model.specs.Phase.{negated, measured_angle}
use Rattle.mc_model.specs.Signals.{value}
use Rattle.mc_model.specs.Pattern as plain
use Rattle.mc_run.specs.Settings.{weight, without}
use Rattle.mc_run.specs.Sources.{entry, half_where}
use Rattle.mc_run.specs.declared.step.Step.{Step}
use Rattle.mc_run.specs.declared.step.Step.TheVariants.{Ent, X, Z, J, Meas, Prep}

abbrev pub gate_step : List ℕ → plain.Gate → Step
gate_step live (plain.J v a) = J (weight live v) a
gate_step live (plain.CZ v u) = Ent (weight live v) (weight live u)

abbrev pub IsLiving : List ℕ → ℕ → Type 0
IsLiving live q = is_member live q ≡ true

-- every entry may be added to another
abbrev pub AreLow : (List ℤ → ℕ) → List (List ℤ) → Type 0
AreLow height v = (i : ℕ) → i < length v → height (entry v i) ≤ 2 ^ 59

-- where the gate adds entries, they are low
abbrev pub IsLowFor : (List ℤ → ℕ) → List (List ℤ) → plain.Gate → Type 0
IsLowFor height v (plain.J q a) = AreLow height v
IsLowFor height v (plain.CZ q r) = ⊤

-- the gate's wires are live
abbrev pub IsGateReady : List ℕ → plain.Gate → Type 0
IsGateReady live (plain.J v a) = IsLiving live v
IsGateReady live (plain.CZ v u) = IsLiving live v × IsLiving live u

abbrev pub command_step : ℕ → List ℕ → Bits → plain.Command → Step
command_step half live o (plain.Prep q) = Prep
command_step half live o (plain.Ent q r) = Ent (weight live q) (weight live r)
command_step half live o (plain.FixX q s) = X (weight live q) (value s o)
command_step half live o (plain.FixZ q s) = Z (weight live q) (value s o)
command_step half live o (plain.Meas q a s t) =
    Meas (weight live q)
    (negated half (measured_angle half a (value s o) (value t o)) + half_where half (o q))

-- the live qubits behind a command
abbrev pub live_behind : List ℕ → plain.Command → List ℕ
live_behind live (plain.Prep q) = q ∷ live
live_behind live (plain.Ent q r) = live
live_behind live (plain.FixX q s) = live
live_behind live (plain.FixZ q s) = live
live_behind live (plain.Meas q a s t) = without live q

-- where the command adds entries, they are low
abbrev pub IsLowBefore : (List ℤ → ℕ) → List (List ℤ) → plain.Command → Type 0
IsLowBefore height v (plain.Prep q) = ⊤
IsLowBefore height v (plain.Ent q r) = ⊤
IsLowBefore height v (plain.FixX q s) = ⊤
IsLowBefore height v (plain.FixZ q s) = ⊤
IsLowBefore height v (plain.Meas q a s t) = AreLow height v

-- the command's qubits are live, and its outcomes are those of the first `n` qubits
abbrev pub IsReady : List ℕ → ℕ → plain.Command → Type 0
IsReady live n (plain.Prep q) = ⊤
IsReady live n (plain.Ent q r) = IsLiving live q × IsLiving live r
IsReady live n (plain.FixX q s) = IsLiving live q × All (λ r. r < n) s.members
IsReady live n (plain.FixZ q s) = IsLiving live q × All (λ r. r < n) s.members
IsReady live n (plain.Meas q a s t) =
    IsLiving live q × (q < n) × All (λ r. r < n) s.members × All (λ r. r < n) t.members

-- a qubit that is measured is live
abbrev pub IsMeasuredLive : List ℕ → plain.Command → Type 0
IsMeasuredLive live (plain.Prep q) = ⊤
IsMeasuredLive live (plain.Ent q r) = ⊤
IsMeasuredLive live (plain.FixX q s) = ⊤
IsMeasuredLive live (plain.FixZ q s) = ⊤
IsMeasuredLive live (plain.Meas q a s t) = IsLiving live q
