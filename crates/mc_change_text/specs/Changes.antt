-- Changes of outcomes, as their texts speak of them.
use Rattle.std.specs.Prelude.{ℕ, ◌<◌, All, Bool, List, if◌then◌else◌}
use Rattle.std.specs.List.{list_any}
use Rattle.mc_model.specs.Signals.{IsRising}
use Rattle.mc_model.specs.Shift.{ChangeRow}

-- the members of each row's signal are a set, in order, as those of every signal of the code are
abbrev pub AreSets : List ChangeRow → Type 0
AreSets rows = All (λ row. IsRising row.signal.members) rows

-- the qubit and the members of each row are below `n`
abbrev pub AreRowsNamed : ℕ → List ChangeRow → Type 0
AreRowsNamed n rows = All (λ row. (row.qubit < n) × All (λ q. q < n) row.signal.members) rows

-- whether a row's signal has the constant
abbrev pub has_constant : List ChangeRow → Bool
has_constant rows = list_any (λ row. row.signal.constant) rows

-- the version of the text: the second where a row has the constant, else the first
abbrev pub change_version : List ChangeRow → ℕ
change_version rows = if has_constant rows then 2 else 1
