-- Which uses of rules are of use.
use Rattle.std.specs.Prelude.{◌≡◌, ◌⊎◌, ◌<◌, true, List, [], ◌∷◌, ⊤}
use Rattle.mc_model.specs.Pattern.{Command}
use Rattle.mc_model.specs.Derivation.{part, is_wrong, is_turned}

-- commands whose exchange, or whose turn, is of use
abbrev pub IsUseful : List Command → List Command → Type 0
IsUseful (c ∷ []) (d ∷ []) = is_turned c ≡ true
IsUseful (c ∷ d ∷ []) (x ∷ y ∷ []) = (part d < part c) ⊎ (is_wrong c d ≡ true)
IsUseful old new = ⊤
