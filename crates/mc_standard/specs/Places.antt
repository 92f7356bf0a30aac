-- What the rewriter finds at a place of a list, and what it makes there.
use Rattle.std.specs.Prelude.{◌≡◌, ℕ, ◌-◌, ◌<◌, ◌≤◌, List, ◌∷◌, ◌++◌, length, map, take}
use Rattle.std.specs.Prelude.{slice_index}
use Rattle.mc_model.specs.Pattern.{Command}
use Rattle.mc_model.specs.Valid.{IsValid, OperandsDiffer}
use Rattle.mc_model.specs.Derivation.{Rule, Use, part}
use Rattle.mc_rules.specs.Improves.{Improvement}
use Rattle.mc_rules.specs.Settled.{IsTidy, Follows, IsSettled, InOrder}

-- the command at the place `k`, counted from 0, is of an earlier part than the one before it
abbrev pub part_at : List Command → ℕ → ℕ
part_at cs k = slice_index (map part cs) k

abbrev pub IsEarly : List Command → ℕ → Type 0
IsEarly cs k = (0 < k) × (part_at cs k < part_at cs (k - 1))

-- the rule lets the first command that is out of order pass the one before it
abbrev pub PassesAt : Rule → ℕ → List Command → List Command → Type 0
PassesAt rule k cs ds = (inputs : ℕ) → IsValid inputs cs → InOrder (take k cs) → IsEarly cs k →
    Improvement inputs rule k cs ds

-- the use improves a list whose parts are in order
abbrev pub SettlesAt : Rule → ℕ → List Command → List Command → Type 0
SettlesAt rule place cs ds = (inputs : ℕ) → IsValid inputs cs → InOrder cs →
    Improvement inputs rule place cs ds

-- nothing is left to do with the command at the place `k`, or with it and the next
abbrev pub IsTidyAt : ℕ → List Command → Type 0
IsTidyAt k cs = (before : List Command) (c : Command) (behind : List Command) →
    cs ≡ before ++ (c ∷ behind) → k ≡ length before → OperandsDiffer c → IsTidy c

abbrev pub FollowsAt : ℕ → List Command → Type 0
FollowsAt k cs = (before : List Command) (c d : Command) (behind : List Command) →
    cs ≡ before ++ (c ∷ d ∷ behind) → k ≡ length before → part c ≤ part d → Follows c d

-- where the first `from` commands of a list in order are settled, so are the first `to`
abbrev pub StaysSettled : ℕ → ℕ → List Command → Type 0
StaysSettled from to cs = (inputs : ℕ) → IsValid inputs cs → InOrder cs →
    IsSettled (take from cs) → IsSettled (take to cs)

-- the use improves a list in order that is settled as far as the place `from`, and the commands
-- before the use are settled
pub record Settles (from : ℕ) (u : Use) (cs ds : List Command) : Type 0 where
  pub behind_none : 0 < u.place
  pub improves : SettlesAt u.rule u.place cs ds
  pub settled : StaysSettled from (u.place - 1) cs
