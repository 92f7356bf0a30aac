-- The laws of derivations.
use Rattle.std.specs.Prelude.{◌≡◌, ℕ, ◌≤◌, List, length, All}
use Rattle.mc_model.specs.Pattern.{Command}
use Rattle.mc_model.specs.Derivation.{Use, Derives}
use Rattle.mc_derivations.specs.Checks.{IsTrace, BreaksTrace}

-- a derivation from at most 64 commands leads to at most 4,096
abbrev pub DerivationsStayShort : Type 0
DerivationsStayShort = (inputs : ℕ) (uses : List Use) (cs ds : List Command) →
    Derives inputs uses cs ds → length cs ≤ 64 → length ds ≤ 4096

-- and each of its uses stands at a place of at most 4,096
abbrev pub PlacesStaySmall : Type 0
PlacesStaySmall = (inputs : ℕ) (uses : List Use) (cs ds : List Command) →
    Derives inputs uses cs ds → length cs ≤ 64 → All (λ u. u.place ≤ 4096) uses

-- a list of uses breaks one rule first, in one row, and is then no derivation of the standard form
pub record IsJudgedOnce (inputs : ℕ) (uses : List Use) (cs : List Command) (row rule : ℕ) : Type 0
  where
    pub no_trace : IsTrace inputs uses cs → ⊥
    pub only : (other number : ℕ) → BreaksTrace inputs uses cs other number →
        (other ≡ row) × (number ≡ rule)

abbrev pub TracesAreJudgedOnce : Type 0
TracesAreJudgedOnce = (inputs : ℕ) (uses : List Use) (cs : List Command) → length cs ≤ 64 →
    (row rule : ℕ) → BreaksTrace inputs uses cs row rule → IsJudgedOnce inputs uses cs row rule
