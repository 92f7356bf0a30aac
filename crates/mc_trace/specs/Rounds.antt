-- The uses that settle a list behind which one command was added.
use Rattle.std.specs.Prelude.{◌≡◌, ℕ, ◌+◌, ◌≤◌, List, ◌++◌, length}
use Rattle.mc_model.specs.Pattern.{Command}
use Rattle.mc_model.specs.Valid.{IsValid}
use Rattle.mc_model.specs.StandardForm.{standard_commands}
use Rattle.mc_model.specs.Derivation.{Use, Derives}
use Rattle.mc_derivations.specs.Effort.{room, effort}

-- the uses that were added lead from the one list to the other, whatever stands behind it, and each
-- lowers the effort
pub record Settling (old new : List Use) (cs ds : List Command) : Type 0 where
  pub added : List Use
  pub is : new ≡ old ++ added
  pub few : length added + effort (room cs) ds ≤ effort (room cs) cs
  pub short : room ds ≤ room cs
  pub derives : (inputs : ℕ) (rest : List Command) → IsValid inputs (cs ++ rest) →
      Derives inputs added (cs ++ rest) (ds ++ rest)
  pub same : (inputs : ℕ) (rest : List Command) → IsValid inputs (cs ++ rest) →
      standard_commands inputs (cs ++ rest) ≡ standard_commands inputs (ds ++ rest)
