-- What a change makes of the commands at its place.
use Rattle.std.specs.Prelude.{◌≡◌, ◌⊎◌, ℕ, ◌<◌, true, List, [], ◌∷◌, length}
use Rattle.mc_model.specs.Pattern.{Command}
use Rattle.mc_model.specs.Derivation.{Rewrites, part, is_wrong, is_turned}
use Rattle.mc_standard.specs.declared.change.Change.{Change}
use Rattle.mc_standard.specs.declared.change.Change.TheVariants as change
use Rattle.mc_standard.specs.declared.change.Rewrite.{Rewrite}
use Rattle.mc_rules.specs.Passing.{MayPass}
use Rattle.mc_standard.specs.Uses.{plain_rule}
use Rattle.mc_pattern.specs.Commands.{plain_command}

-- how many commands it concerns
abbrev pub reach : {h : ℕ} → Change h → ℕ
reach change.Exchange = 2
reach (change.Add e) = 2
reach (change.Merge e) = 2
reach change.Cancel = 2
reach (change.Put e) = 1
reach change.Remove = 1

-- the list that a change makes of a list that begins with the commands concerned
abbrev pub changed : {h : ℕ} → Change h → List Command → List Command
changed change.Exchange (c ∷ d ∷ cs) = d ∷ c ∷ cs
changed (change.Add e) (c ∷ d ∷ cs) = d ∷ c ∷ plain_command e ∷ cs
changed (change.Merge e) (c ∷ d ∷ cs) = plain_command e ∷ cs
changed change.Cancel (c ∷ d ∷ cs) = cs
changed (change.Put e) (c ∷ cs) = plain_command e ∷ cs
changed change.Remove (c ∷ cs) = cs
changed other cs = cs

-- it changes the commands by its rule
abbrev pub IsUse : {h : ℕ} → Rewrite h → List Command → Type 0
IsUse rewrite old = Rewrites (plain_rule rewrite.rule) old (changed rewrite.change old)

-- the second of two neighbours passes the first, where the parts are in the wrong order
abbrev pub Passes : {h : ℕ} → Rewrite h → Command → Command → Type 0
Passes rewrite c d =
    (reach rewrite.change ≡ 2) × (MayPass c d → part d < part c → IsUse rewrite (c ∷ d ∷ []))

-- two neighbours of one part become fewer, or change places where they are in the wrong order
pub record SettlesTwo {h : ℕ} (rewrite : Rewrite h) (c d : Command) : Type 0 where
  pub two : reach rewrite.change ≡ 2
  pub one_part : part c ≡ part d
  pub used : IsUse rewrite (c ∷ d ∷ [])
  pub nearer : (length (changed rewrite.change (c ∷ d ∷ [])) < 2)
      ⊎ ((changed rewrite.change (c ∷ d ∷ []) ≡ d ∷ c ∷ []) × (is_wrong c d ≡ true))

-- a command vanishes, or is an entangling that is turned so that the lower qubit comes first
pub record SettlesOne {h : ℕ} (rewrite : Rewrite h) (c : Command) : Type 0 where
  pub one : reach rewrite.change ≡ 1
  pub used : IsUse rewrite (c ∷ [])
  pub nearer : (changed rewrite.change (c ∷ []) ≡ []) ⊎ (is_turned c ≡ true)
