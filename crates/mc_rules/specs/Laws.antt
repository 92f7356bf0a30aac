-- The laws of the standard form and of rewriting, over the amplitude ring with any `half` above 0.
use Rattle.std.specs.Prelude.{◌≡◌, ◌↔◌, ◌⊎◌, ℕ, ◌<◌, ◌≤◌, Bool, List, length}
use Rattle.mc_model.specs.Bits.{Bits}
use Rattle.mc_model.specs.Ring.{ring}
use Rattle.mc_model.specs.Pattern.{Command, Pattern, HasNoConstants}
use Rattle.mc_model.specs.Amplitude.{zero_branch, pattern_scale}
use Rattle.mc_model.specs.Alike.{AlikeBranches, AlikeCommands}
use Rattle.mc_model.specs.Valid.{IsValid, IsValidPattern}
use Rattle.mc_model.specs.StandardForm.{standard_commands, standard_form}
use Rattle.mc_model.specs.Derivation.{Rule, Step, Use, Derives}
use Rattle.mc_rules.specs.Improves.{Improves, IsReached}
use Rattle.mc_rules.specs.Settled.{IsSettled}

-- whatever the outcomes, the branch map of a pattern is that of its standard form, up to one power
-- of `w`
abbrev pub StandardIsAlike : Type 0
StandardIsAlike = (half : ℕ) → 0 < half → (p : Pattern) → IsValidPattern p → (o : Bits) →
    AlikeBranches (ring half) p o (standard_form p) o

-- without constants the zero branch is the same
abbrev pub StandardKeepsZeroBranch : Type 0
StandardKeepsZeroBranch = (half : ℕ) → 0 < half → (p : Pattern) → IsValidPattern p →
    HasNoConstants p.commands → (y : List Bool) (b : Bits) →
    zero_branch (ring half) (standard_form p) y b ≡ zero_branch (ring half) p y b

-- the standard form of a pattern is valid and its own standard form, and keeps the scale
pub record IsStandardised (p : Pattern) : Type 0 where
  pub valid : IsValidPattern (standard_form p)
  pub own : standard_form (standard_form p) ≡ standard_form p
  pub scale : pattern_scale (standard_form p) ≡ pattern_scale p
  pub few : length (standard_form p).commands ≤ 262144

abbrev pub StandardIsStandard : Type 0
StandardIsStandard = (p : Pattern) → IsValidPattern p → IsStandardised p

-- a use of a rule, anywhere in a list, keeps what the list does at every outcome list, up to one
-- power of `w`
abbrev pub StepIsAlike : Type 0
StepIsAlike = (half : ℕ) → 0 < half → (inputs : ℕ) (rule : Rule) (place : ℕ)
    (cs ds : List Command) → Step inputs rule place cs ds → (o : Bits) →
    AlikeCommands (ring half) o cs ds

-- the pattern with other commands
abbrev pub with_commands : Pattern → List Command → Pattern
with_commands p cs = record {
  names = p.names;
  inputs = p.inputs;
  outputs = p.outputs;
  commands = cs;
}

-- uses of rules keep a pattern valid, and its branch maps up to one power of `w` for each outcome
-- list
pub record KeepsPattern (half : ℕ) (p : Pattern) (cs : List Command) : Type 0 where
  pub valid : IsValidPattern (with_commands p cs)
  pub alike : (o : Bits) → AlikeBranches (ring half) p o (with_commands p cs) o

abbrev pub DerivationsKeepPatterns : Type 0
DerivationsKeepPatterns = (half : ℕ) → 0 < half → (p : Pattern) → IsValidPattern p →
    (uses : List Use) (cs : List Command) → Derives p.inputs uses p.commands cs →
    KeepsPattern half p cs

-- a valid list is improved by a use of a rule exactly where it is not its own standard form
pub record ImprovesOrStands (inputs : ℕ) (cs : List Command) : Type 0 where
  pub one_holds : Improves inputs cs ⊎ (standard_commands inputs cs ≡ cs)
  pub not_both : standard_commands inputs cs ≡ cs → Improves inputs cs → ⊥

abbrev pub StepsLeadToStandard : Type 0
StepsLeadToStandard = (inputs : ℕ) (cs : List Command) → IsValid inputs cs →
    ImprovesOrStands inputs cs × IsReached inputs cs

-- a valid list is its own standard form exactly where it is settled
abbrev pub SettledIsStandard : Type 0
SettledIsStandard = (inputs : ℕ) (cs : List Command) → IsValid inputs cs →
    IsSettled cs ↔ (standard_commands inputs cs ≡ cs)
