-- The uses that help lead somewhere, and are of use.
use Rattle.std.proofs.Common.{◌≡◌, ℕ, List, ◌++◌, refl, sym}
use Rattle.std.proofs.Common.{subst}
use mathlib.Core.Logic.{inl, inr}
use Rattle.mc_model.specs.Pattern.{Command}
use Rattle.mc_model.specs.Derivation.{Rewrites}
use Rattle.mc_model.specs.Derivation.{Use}
use Rattle.mc_derivations.specs.Useful.{IsUseful}
use Rattle.mc_trace.specs.Choosing.{HelpsAt}
use Rattle.mc_derivations.specs.Following.{Leads, Misfits}
use Rattle.mc_derivations.proofs.RuleReach.{rewritten_reach, same_old}
use Rattle.mc_derivations.proofs.RuleReach.{leads_exist}

-- a use that helps is of use, wherever it leads
pub helps_useful : (u : Use) (cs ds : List Command) → HelpsAt u cs → (l : Leads u cs ds) →
    IsUseful l.old l.new
helps_useful u cs ds h l =
    let same : l.old ≡ h.old = same_old u cs ds h.before h.old h.behind l h.from_list h.at_place
    (rewritten_reach u.rule h.old h.helps.new h.helps.rewrites) in
    subst (λ (xs : List Command). IsUseful xs l.new) (sym same)
    (h.helps.useful l.new (subst (λ (xs : List Command). Rewrites u.rule xs l.new) same l.rewrites))

-- where it leads
pub helps_leads : (u : Use) (cs : List Command) → (h : HelpsAt u cs) →
    Leads u cs (h.before ++ (h.helps.new ++ h.behind))
helps_leads u cs h = record {
  before = h.before;
  old = h.old;
  new = h.helps.new;
  behind = h.behind;
  rewrites = h.helps.rewrites;
  at_place = h.at_place;
  from_list = h.from_list;
  to_list = refl;
}

-- and fits the rule's line
pub helps_lead : (u : Use) (cs : List Command) (rule : ℕ) → HelpsAt u cs → Misfits u cs rule → ⊥
helps_lead u cs rule h m = elim m [
  | inl lacks ↦ leads_exist u cs _ (helps_leads u cs h) lacks.1
  | inr nowhere ↦ nowhere.2 _ (helps_leads u cs h)
]
