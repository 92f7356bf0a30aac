-- Uses of rules that are given, and not chosen.
use Rattle.std.specs.Prelude.{◌≡◌, ◌⊎◌, ℕ, suc, ◌+◌, ◌<◌, List, ◌++◌, length}
use Rattle.mc_model.specs.Pattern.{Command}
use Rattle.mc_model.specs.Derivation.{Rule, XE, ZE, XM, ZM, Swap, Join, EE, Cancel, XZ, Turn}
use Rattle.mc_model.specs.Derivation.{DropEmpty, Use, Rewrites}

-- how many commands a rule concerns
abbrev pub rule_reach : Rule → ℕ
rule_reach XE = 2
rule_reach ZE = 2
rule_reach XM = 2
rule_reach ZM = 2
rule_reach Swap = 2
rule_reach Join = 2
rule_reach EE = 2
rule_reach Cancel = 2
rule_reach XZ = 2
rule_reach Turn = 1
rule_reach DropEmpty = 1

-- the use leads from the one list to the other, be they valid or not
pub record Leads (u : Use) (cs ds : List Command) : Type 0 where
  pub before : List Command
  pub old : List Command
  pub new : List Command
  pub behind : List Command
  pub rewrites : Rewrites u.rule old new
  pub at_place : u.place ≡ suc (length before)
  pub from_list : cs ≡ before ++ (old ++ behind)
  pub to_list : ds ≡ before ++ (new ++ behind)

abbrev pub LeadsNowhere : Use → List Command → Type 0
LeadsNowhere u cs = (ds : List Command) → Leads u cs ds → ⊥

-- the place is 0, or the commands that the rule concerns do not all exist
abbrev pub LacksCommands : Use → List Command → Type 0
LacksCommands u cs = (u.place ≡ 0) ⊎ (length cs + 1 < u.place + rule_reach u.rule)

-- the first of these rules that the use breaks: 1, the commands exist; 2, they are those of the
-- rule's line
abbrev pub Misfits : Use → List Command → ℕ → Type 0
Misfits u cs rule =
    ((rule ≡ 1) × LacksCommands u cs)
    ⊎ ((rule ≡ 2) × (LacksCommands u cs → ⊥) × LeadsNowhere u cs)
