-- The law of derivations that exist.
use Rattle.std.specs.Prelude.{ℕ, ◌≤◌, List, length}
use Rattle.mc_model.specs.Pattern.{Command}
use Rattle.mc_model.specs.Valid.{IsValid}
use Rattle.mc_model.specs.Derivation.{Use}
use Rattle.mc_derivations.specs.Derivations.{LeadsToStandard}

-- every valid list of at most 64 commands leads to its standard form within the bounds
abbrev pub DerivationsExist : Type 0
DerivationsExist = (inputs : ℕ) (cs : List Command) → IsValid inputs cs → length cs ≤ 64 →
    (uses : List Use) × LeadsToStandard inputs uses cs
