-- Commands whose qubits have names.
use Rattle.std.specs.Prelude.{ℕ, ◌<◌, List, All}
use Rattle.std.specs.List.{AllByRecursion}
use Rattle.mc_model.specs.Pattern.{Command, Prep, Ent, Meas, FixX, FixZ}

-- each qubit that the command names is below `n`
abbrev pub IsNamed : ℕ → Command → Type 0
IsNamed n (Prep q) = q < n
IsNamed n (Ent q r) = (q < n) × (r < n)
IsNamed n (Meas q a s t) =
    (q < n) × All (λ k. k < n) s.members × All (λ k. k < n) t.members
IsNamed n (FixX q s) = (q < n) × All (λ k. k < n) s.members
IsNamed n (FixZ q s) = (q < n) × All (λ k. k < n) s.members

abbrev pub AreNamed : ℕ → List Command → Type 0
AreNamed n cs = AllByRecursion (IsNamed n) cs
