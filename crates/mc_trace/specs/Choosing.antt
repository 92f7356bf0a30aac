-- Which uses of rules bring a list nearer to its standard form.
use Rattle.std.specs.Prelude.{◌≡◌, ℕ, suc, cond, ◌||◌, nat_eq, nat_lt, List}
use Rattle.std.specs.Prelude.{◌∷◌, ◌++◌, length, Option, Some, None}
use Rattle.mc_model.specs.Signals.{is_empty}
use Rattle.mc_model.specs.Pattern.{Command, Prep, Ent, Meas, FixX, FixZ}
use Rattle.mc_model.specs.Valid.{IsValid}
use Rattle.mc_model.specs.Derivation.{Rule, Use, Rewrites, lower, higher, pair_before}
use Rattle.mc_derivations.specs.Useful.{IsUseful}
use Rattle.mc_rules.specs.Settled.{IsTidy, FirstFollows}
use Rattle.mc_standard.specs.declared.rule.Rule.{Rule as Coded}
use Rattle.mc_standard.specs.declared.rule.Rule.TheVariants as rule

-- the rule may be used on the commands, and whatever it makes of them is of use
pub record Helps (rule : Rule) (old : List Command) : Type 0 where
  pub new : List Command
  pub rewrites : Rewrites rule old new
  pub useful : (other : List Command) → Rewrites rule old other → IsUseful old other

-- so does the use in the list
pub record HelpsAt (u : Use) (cs : List Command) : Type 0 where
  pub before : List Command
  pub old : List Command
  pub behind : List Command
  pub helps : Helps u.rule old
  pub at_place : u.place ≡ suc (length before)
  pub from_list : cs ≡ before ++ (old ++ behind)

-- nothing is left to do with the command at the place `k`, counted from 0, or with it and the next
abbrev pub IsDoneAt : ℕ → List Command → Type 0
IsDoneAt k cs = (before : List Command) (c : Command) (behind : List Command) →
    cs ≡ before ++ (c ∷ behind) → k ≡ length before → IsTidy c × FirstFollows c behind

-- the list is valid for some number of inputs
pub record IsSomewhereValid (cs : List Command) : Type 0 where
  pub inputs : ℕ
  pub valid : IsValid inputs cs

-- ---- the rule for a command, and for two neighbours

abbrev pub rule_for_one : Command → Option Coded
rule_for_one (Prep q) = None
rule_for_one (Ent i j) = cond (nat_lt j i) (Some rule.Turn) None
rule_for_one (Meas q a s t) = None
rule_for_one (FixX q s) = cond (is_empty s) (Some rule.DropEmpty) None
rule_for_one (FixZ q s) = cond (is_empty s) (Some rule.DropEmpty) None

abbrev pub rule_for_edges : ℕ → ℕ → ℕ → ℕ → Option Coded
rule_for_edges a b c d =
    cond (pair_before c d a b) (Some rule.EE)
    (cond (pair_before a b c d) None (Some rule.Cancel))

-- two corrections of the qubits `i` and `q`
abbrev pub rule_for_fixes : ℕ → ℕ → Coded → Option Coded
rule_for_fixes i q same = cond (nat_lt q i) (Some rule.Swap) (cond (nat_eq i q) (Some same) None)

abbrev pub rule_behind_edge : ℕ → ℕ → Command → Option Coded
rule_behind_edge i j (Prep q) = Some rule.Swap
rule_behind_edge i j (Ent q r) =
    rule_for_edges (lower i j) (higher i j) (lower q r) (higher q r)
rule_behind_edge i j (Meas q a s t) = None
rule_behind_edge i j (FixX q s) = None
rule_behind_edge i j (FixZ q s) = None

abbrev pub rule_behind_measure : Command → Option Coded
rule_behind_measure (Prep q) = Some rule.Swap
rule_behind_measure (Ent q r) = Some rule.Swap
rule_behind_measure (Meas q a s t) = None
rule_behind_measure (FixX q s) = None
rule_behind_measure (FixZ q s) = None

abbrev pub rule_behind_x : ℕ → Command → Option Coded
rule_behind_x i (Prep q) = Some rule.Swap
rule_behind_x i (Ent q r) = cond (nat_eq i q || nat_eq i r) (Some rule.XE) (Some rule.Swap)
rule_behind_x i (Meas q a s t) = cond (nat_eq i q) (Some rule.XM) (Some rule.Swap)
rule_behind_x i (FixX q s) = rule_for_fixes i q rule.Join
rule_behind_x i (FixZ q s) = cond (nat_lt q i) (Some rule.Swap) None

abbrev pub rule_behind_z : ℕ → Command → Option Coded
rule_behind_z i (Prep q) = Some rule.Swap
rule_behind_z i (Ent q r) = cond (nat_eq i q || nat_eq i r) (Some rule.ZE) (Some rule.Swap)
rule_behind_z i (Meas q a s t) = cond (nat_eq i q) (Some rule.ZM) (Some rule.Swap)
rule_behind_z i (FixX q s) = rule_for_fixes i q rule.XZ
rule_behind_z i (FixZ q s) = rule_for_fixes i q rule.Join

abbrev pub rule_for_two : Command → Command → Option Coded
rule_for_two (Prep q) d = None
rule_for_two (Ent i j) d = rule_behind_edge i j d
rule_for_two (Meas q a s t) d = rule_behind_measure d
rule_for_two (FixX q s) d = rule_behind_x q d
rule_for_two (FixZ q s) d = rule_behind_z q d
