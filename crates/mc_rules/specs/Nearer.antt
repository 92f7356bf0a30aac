-- Uses of rules that improve a list, stated at the place of the use.
use Rattle.std.specs.Prelude.{◌≡◌, ◌⊎◌, ℕ, suc, ◌<◌, ◌≤◌, true, List, [], ◌∷◌, ◌++◌, length}
use Rattle.mc_model.specs.Pattern.{Command}
use Rattle.mc_model.specs.Valid.{IsValid}
use Rattle.mc_model.specs.Derivation.{Rule, Rewrites, part, is_wrong, is_turned, rank}
use Rattle.mc_rules.specs.Improves.{Improvement}
use Rattle.mc_rules.specs.Passing.{MayPass}
use Rattle.mc_rules.specs.Settled.{InOrder}
use Rattle.mc_rules.specs.UsesLeft.{uses_left}

-- the first command of an earlier part passes the one before it
abbrev pub PassingImproves : Type 0
PassingImproves = (inputs : ℕ) (rule : Rule) (before : List Command) (c d : Command)
    (new behind : List Command) → IsValid inputs (before ++ (c ∷ d ∷ behind)) →
    InOrder (before ++ (c ∷ [])) → part d < part c →
    (MayPass c d → Rewrites rule (c ∷ d ∷ []) new) →
    Improvement inputs rule (suc (length before)) (before ++ (c ∷ d ∷ behind))
    (before ++ (new ++ behind))

-- two neighbours of one part become fewer, or change places where they are in the wrong order
abbrev pub NearerTwo : Command → Command → List Command → Type 0
NearerTwo c d new =
    (part c ≡ part d)
    × ((length new < 2) ⊎ ((new ≡ d ∷ c ∷ []) × (is_wrong c d ≡ true)))

-- a command vanishes, or is an entangling that is turned so that the lower qubit comes first
abbrev pub NearerOne : Command → List Command → Type 0
NearerOne c new = (new ≡ []) ⊎ (is_turned c ≡ true)

-- where the parts are in order
abbrev pub SettlingTwoImproves : Type 0
SettlingTwoImproves = (inputs : ℕ) (rule : Rule) (before : List Command) (c d : Command)
    (new behind : List Command) → IsValid inputs (before ++ (c ∷ d ∷ behind)) →
    InOrder (before ++ (c ∷ d ∷ behind)) → Rewrites rule (c ∷ d ∷ []) new →
    NearerTwo c d new →
    Improvement inputs rule (suc (length before)) (before ++ (c ∷ d ∷ behind))
    (before ++ (new ++ behind))

abbrev pub SettlingOneImproves : Type 0
SettlingOneImproves = (inputs : ℕ) (rule : Rule) (before : List Command) (c : Command)
    (new behind : List Command) → IsValid inputs (before ++ (c ∷ behind)) →
    InOrder (before ++ (c ∷ behind)) → Rewrites rule (c ∷ []) new → NearerOne c new →
    Improvement inputs rule (suc (length before)) (before ++ (c ∷ behind))
    (before ++ (new ++ behind))

-- each improvement leaves fewer uses
abbrev pub ImprovementsEnd : Type 0
ImprovementsEnd = (inputs : ℕ) (rule : Rule) (place : ℕ) (cs ds : List Command) →
    Improvement inputs rule place cs ds → uses_left (rank ds) < uses_left (rank cs)

-- the parts of a list are in order where no command is of an earlier part than the one before it
pub record PartsInOrder : Type 0 where
  pub none : InOrder []
  pub one : (c : Command) → InOrder (c ∷ [])
  pub more : (before : List Command) (c d : Command) → InOrder (before ++ (c ∷ [])) →
      part c ≤ part d → InOrder ((before ++ (c ∷ [])) ++ (d ∷ []))
  pub front : (cs ds : List Command) → InOrder (cs ++ ds) → InOrder cs
  pub rise : (before : List Command) (c d : Command) (behind : List Command) →
      InOrder (before ++ (c ∷ d ∷ behind)) → part c ≤ part d
