-- What is kept of the lines of a trace while they are read.
use Rattle.std.specs.Prelude.{◌≡◌, ℕ, ◌<◌, ◌≤◌, List, [], ◌∷◌, ◌++◌, length}
use Rattle.std.specs.Prelude.{None, Some, true, ⊤, if◌then◌else◌}
use Rattle.mc_model.specs.Derivation.{Rule, Use}
use Rattle.mc_angle.specs.Number.{number_of}
use Rattle.mc_text.specs.declared.head.Head.TheVariants.{U}
use Rattle.mc_text.specs.declared.point.Point.{Point}
use Rattle.mc_text.specs.Heads.{head_of}
use Rattle.mc_text.specs.Judged.{Words, Lines}
use Rattle.mc_trace_text.specs.declared.section.Role.TheVariants as role
use Rattle.mc_trace_text.specs.Words.{rule_of}
use Rattle.mc_trace_text.specs.Traces.{is_use, role_of, judge_by, lacks_by}
use Rattle.mc_trace_text.specs.Traces.{uses_in, most_uses, CanBeWritten}

-- a use is due behind so many, and its place is this
pub record IsPlaced (count place : ℕ) (h number : List ℕ) : Type 0 where
  pub head : head_of h ≡ Some U
  pub room : count < most_uses
  pub place_is : place ≡ number_of number
  pub small : place ≤ 9999

-- the place and the rule that are kept of the words of a line behind so many uses
abbrev pub IsLine : ℕ → ℕ → Rule → Words → Type 0
IsLine count place rule [] = ⊤
IsLine count place rule (h ∷ []) = is_use (head_of h) ≡ true → count < most_uses
IsLine count place rule (h ∷ number ∷ []) = IsPlaced count place h number
IsLine count place rule (h ∷ number ∷ word ∷ []) =
    IsPlaced count place h number × (rule_of word ≡ Some rule)
IsLine count place rule _ = ⊥

-- what is kept of the lines before and of the words of a line
pub record IsKept (uses : List Use) (place : ℕ) (rule : Rule) (before : Lines) (here : Words)
    : Type 0 where
  pub uses_are : uses ≡ uses_in before
  pub written : CanBeWritten uses
  pub line : IsLine (length uses) place rule here

-- what a word with nothing against it does behind so many uses
pub record Takes (uses place place' : ℕ) (rule' : Rule) (p : Point) (word : List ℕ) : Type 0 where
  pub clean : judge_by uses p.last (role_of p) word ≡ None
  pub place_is : role_of p ≡ role.Place → (place' ≡ number_of word) × (place' ≤ 9999)
  pub same_place : role_of p ≡ role.Rule → place' ≡ place
  pub rule_is : role_of p ≡ role.Rule → rule_of word ≡ Some rule'

-- what the end of a line with nothing against it does
pub record Ends (uses uses' : List Use) (place : ℕ) (rule : Rule) (p : Point) : Type 0 where
  pub clean : lacks_by (role_of p) ≡ None
  pub uses_are : uses'
      ≡ uses ++ (if is_use p.head then record { place = place; rule = rule } ∷ [] else [])
