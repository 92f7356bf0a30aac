-- The rules that a builder tests are those of valid patterns.
use Rattle.std.specs.Prelude.{◌≡◌, ◌↔◌, ℕ, false, not, List, length, None}
use Rattle.mc_model.specs.Numbers.{ListsOnce}
use Rattle.mc_model.specs.Pattern.{Command, Pattern}
use Rattle.mc_model.specs.Valid.{FitsBehind, measured}
use Rattle.mc_pattern.specs.Rules.{is_prep, broken_rule, broken_outputs}
use Rattle.mc_pattern.specs.Typed.{IsTyped}
use Rattle.mc_pattern.specs.Patterns.{IsBegun}

-- a command that is no preparation breaks no rule exactly where it may stand behind the pattern
abbrev pub RulesTellWhatFits : Type 0
RulesTellWhatFits = (half : ℕ) (p : Pattern) (c : Command) → IsBegun half p →
    is_prep c ≡ false → IsTyped half c →
    (broken_rule p c ≡ None) ↔ FitsBehind p.inputs p.commands c

-- outputs break no rule exactly where they list each qubit once that is measured nowhere
abbrev pub RulesTellOutputs : Type 0
RulesTellOutputs = (p : Pattern) (qs : List ℕ) →
    (broken_outputs p qs ≡ None) ↔ ListsOnce (length p.names) (λ q. not (measured p.commands q)) qs
