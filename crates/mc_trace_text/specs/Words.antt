-- The words of the rules.
use Rattle.std.specs.Prelude.{ℕ, List, [], ◌∷◌, Option, find, codes}
use Rattle.mc_model.specs.Derivation.{Rule, XE, ZE, XM, ZM, Swap, Join, EE, Cancel, XZ, Turn}
use Rattle.mc_model.specs.Derivation.{DropEmpty}
use Rattle.mc_text.specs.Heads.{is_word}

abbrev pub rule_word : Rule → List ℕ
rule_word XE = codes "xe"
rule_word ZE = codes "ze"
rule_word XM = codes "xm"
rule_word ZM = codes "zm"
rule_word Swap = codes "swap"
rule_word Join = codes "join"
rule_word EE = codes "ee"
rule_word Cancel = codes "cancel"
rule_word XZ = codes "xz"
rule_word Turn = codes "turn"
rule_word DropEmpty = codes "drop"

abbrev pub all_rules : List Rule
all_rules =
    XE ∷ ZE ∷ XM ∷ ZM ∷ Swap ∷ Join ∷ EE ∷ Cancel ∷ XZ ∷ Turn ∷ DropEmpty ∷ []

-- the rule that a word names
abbrev pub rule_of : List ℕ → Option Rule
rule_of word = find (λ rule. is_word (rule_word rule) word) all_rules
