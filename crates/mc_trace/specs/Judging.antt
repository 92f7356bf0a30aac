-- What the checker of derivations finds.
use Rattle.std.specs.Prelude.{◌≡◌, ◌↔◌, ℕ, ◌≤◌, List, length, Option, Some, None}
use Rattle.mc_model.specs.Pattern.{Command}
use Rattle.mc_model.specs.Derivation.{Use}
use Rattle.mc_cert.specs.Rules.{Breach, breach}
use Rattle.mc_derivations.specs.Checks.{IsTrace, BreaksTrace}

-- nothing exactly where the uses are a derivation of the standard
-- form, and else the first broken row and the least rule that it breaks
pub record Judges (found : Option Breach) (inputs : ℕ) (uses : List Use) (cs : List Command) :
    Type 0 where
  pub yes : (found ≡ None) ↔ IsTrace inputs uses cs
  pub no : (row rule : ℕ) →
      (found ≡ Some (breach row rule)) ↔ BreaksTrace inputs uses cs row rule

-- every list of uses, of a list of at most 64 commands, is judged
abbrev pub EveryTraceIsJudged : Type 0
EveryTraceIsJudged = (inputs : ℕ) (uses : List Use) (cs : List Command) → length cs ≤ 64 →
    (found : Option Breach) × Judges found inputs uses cs
