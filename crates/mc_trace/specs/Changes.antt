-- Changes that lead from a list to another by a rule.
use Rattle.std.specs.Prelude.{ℕ, ◌+◌, ◌-◌, ◌≤◌, ◌≡◌, List, ◌++◌, length, take, drop}
use Rattle.mc_model.specs.Pattern.{Command}
use Rattle.mc_model.specs.Derivation.{Rule}
use Rattle.mc_standard.specs.declared.change.Change.{Change}
use Rattle.mc_standard.specs.Changes.{reach, changed}
use Rattle.mc_derivations.specs.Following.{Leads}

-- the list in which the change is made of the commands at the place leads there by the rule
abbrev pub LeadsBy : {h : ℕ} → Change h → Rule → ℕ → List Command → Type 0
LeadsBy change rule place cs =
    (place + reach change ≤ length cs + 1)
    × ((ds : List Command) → ds ≡ take (place - 1) cs ++ changed change (drop (place - 1) cs) →
    Leads (record { place = place; rule = rule }) cs ds)
