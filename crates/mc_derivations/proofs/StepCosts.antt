-- What the uses of rules do to the room and the effort of a list.
use Rattle.std.proofs.Common.{◌≡◌, ℕ, ◌+◌, ◌*◌, ◌<◌, ◌≤◌, Bool, true, false, cond, List, [], ◌∷◌}
use Rattle.std.proofs.Common.{◌++◌, length, refl, sym, subst₂, arith}
use Rattle.mc_model.specs.Pattern.{Command}
use Rattle.mc_model.specs.Derivation.{Rule, XE, ZE, XM, ZM, Swap, Join, EE, Cancel, XZ, Turn}
use Rattle.mc_model.specs.Derivation.{DropEmpty, Rewrites, Step, Use, Derives, no_use, one_use}
use Rattle.mc_model.specs.Derivation.{turned_edges}
use Rattle.mc_derivations.specs.Effort.{meets, cost, sum_from, pair_sum, room, effort}
use Rattle.mc_derivations.proofs.PairSums.{lightened}
use Rattle.mc_derivations.specs.Useful.{IsUseful}
use Rattle.mc_derivations.specs.Following.{rule_reach, Leads}
use Rattle.mc_derivations.proofs.RuleReach.{rewritten_reach}
use Rattle.std.specs.Prelude.{All}
use Rattle.std.proofs.lemmas.List.Elements.{All-nil, All-cons}
use Rattle.std.proofs.Common.{ap}
use Rattle.mc_derivations.proofs.RuleCosts.{adds, rule_lightens, rule_room, rule_effort}

pub length-append : (xs ys : List Command) → length (xs ++ ys) ≡ length xs + length ys
length-append [] ys = omega arith
length-append (x ∷ xs) ys = let h = length-append xs ys in omega arith

pub turned-append : (xs ys : List Command) →
    turned_edges (xs ++ ys) ≡ turned_edges xs + turned_edges ys
unfolding turned_edges
turned-append [] ys = omega arith
turned-append (x ∷ xs) ys = let h = turned-append xs ys in omega arith

adds_none : (rule : Rule) (n : ℕ) → cond (adds false rule) n 0 ≡ 0
adds_none XE n = refl
adds_none ZE n = refl
adds_none XM n = refl
adds_none ZM n = refl
adds_none Swap n = refl
adds_none Join n = refl
adds_none EE n = refl
adds_none Cancel n = refl
adds_none XZ n = refl
adds_none Turn n = refl
adds_none DropEmpty n = refl

rewrites_room : (rule : Rule) (before old new behind : List Command) → Rewrites rule old new →
    room (before ++ (new ++ behind)) ≤ room (before ++ (old ++ behind))
unfolding room
rewrites_room rule before old new behind r =
    let a = lightened (cost false 1) (adds false rule) old new before behind
    (rule_lightens false 1 rule old new r) in
    let b = rule_room rule old new r in
    let c = adds_none rule (length before + length behind) in
    let d = length-append before (new ++ behind) in
    let e = length-append new behind in
    let f = length-append before (old ++ behind) in
    let g = length-append old behind in omega arith

rewrites_effort : (most : ℕ) (rule : Rule) (before old new behind : List Command) →
    Rewrites rule old new → IsUseful old new → length (before ++ (old ++ behind)) ≤ most →
    effort most (before ++ (new ++ behind)) < effort most (before ++ (old ++ behind))
unfolding effort
rewrites_effort most rule before old new behind r u h =
    let d = length-append before (new ++ behind) in
    let e = length-append new behind in
    let f = length-append before (old ++ behind) in
    let g = length-append old behind in
    let a = lightened (cost true most) (adds true rule) old new before behind
    (rule_lightens true most rule old new r) in
    let b = rule_effort most (length before + length behind) rule old new r u (omega arith) in
    let i = turned-append before (new ++ behind) in
    let j = turned-append new behind in
    let k = turned-append before (old ++ behind) in
    let l = turned-append old behind in omega arith

pub led_room : (u : Use) (cs ds : List Command) → Leads u cs ds → room ds ≤ room cs
led_room u cs ds l =
    subst₂ (λ (xs ys : List Command). room ys ≤ room xs) (sym l.from_list) (sym l.to_list)
    (rewrites_room u.rule l.before l.old l.new l.behind l.rewrites)

pub led_effort : (most : ℕ) (u : Use) (cs ds : List Command) → (l : Leads u cs ds) →
    IsUseful l.old l.new → length cs ≤ most → effort most ds < effort most cs
led_effort most u cs ds l h =
    subst₂ (λ (xs ys : List Command). length xs ≤ most → effort most ys < effort most xs)
    (sym l.from_list) (sym l.to_list)
    (rewrites_effort most u.rule l.before l.old l.new l.behind l.rewrites h)

pub step_leads : (inputs : ℕ) (u : Use) (cs ds : List Command) →
    Step inputs u.rule u.place cs ds → Leads u cs ds
step_leads inputs u cs ds s = record {
  before = s.before;
  old = s.old;
  new = s.new;
  behind = s.behind;
  rewrites = s.rewrites;
  at_place = s.at_place;
  from_list = s.from_list;
  to_list = s.to_list;
}

-- ---- derivations

pub length_room : (cs : List Command) → length cs ≤ room cs
unfolding room
length_room cs = omega arith

pub derived_room : (inputs : ℕ) (uses : List Use) (cs ds : List Command) →
    Derives inputs uses cs ds → room ds ≤ room cs
derived_room inputs [] cs ds no_use = omega arith
derived_room inputs (u ∷ uses) cs ds (one_use {ds = es} s more) =
    let a = led_room u cs es (step_leads inputs u cs es s) in
    let b = derived_room inputs uses es ds more in omega arith

from_most : (c : Command) (ds : List Command) → sum_from (cost false 1) c ds ≤ length ds
unfolding sum_from
from_most c [] = omega arith
from_most c (d ∷ ds) =
    let a = one (meets c d) in
    let b = from_most c ds in omega arith
  where
    one : (m : Bool) → cond m 1 0 ≤ 1
    one true = omega arith
    one false = omega arith

pairs_most : (cs : List Command) → length cs ≤ 64 → pair_sum (cost false 1) cs ≤ 63 * length cs
unfolding pair_sum
pairs_most [] h = omega arith
pairs_most (c ∷ cs) h =
    let a = from_most c cs in
    let b = pairs_most cs (omega arith) in omega arith

room_most : (cs : List Command) → length cs ≤ 64 → room cs ≤ 4096
unfolding room
room_most cs h = let c = pairs_most cs h in omega arith

pub derivations_short : (inputs : ℕ) (uses : List Use) (cs ds : List Command) →
    Derives inputs uses cs ds → length cs ≤ 64 → length ds ≤ 4096
derivations_short inputs uses cs ds d h =
    let a = derived_room inputs uses cs ds d in
    let b = length_room ds in
    let c = room_most cs h in omega arith

-- ---- places

led_place : (u : Use) (cs ds : List Command) → Leads u cs ds → u.place ≤ length cs
led_place u cs ds l =
    let at = l.at_place in
    let long = rewritten_reach u.rule l.old l.new l.rewrites in
    let some = reach_some u.rule in
    let whole = ap length l.from_list in
    let a = length-append l.before (l.old ++ l.behind) in
    let b = length-append l.old l.behind in omega arith
  where
    reach_some : (rule : Rule) → 0 < rule_reach rule
    reach_some XE = omega arith
    reach_some ZE = omega arith
    reach_some XM = omega arith
    reach_some ZM = omega arith
    reach_some Swap = omega arith
    reach_some Join = omega arith
    reach_some EE = omega arith
    reach_some Cancel = omega arith
    reach_some XZ = omega arith
    reach_some Turn = omega arith
    reach_some DropEmpty = omega arith

places_within : (most inputs : ℕ) (uses : List Use) (cs ds : List Command) →
    Derives inputs uses cs ds → room cs ≤ most → All (λ u. u.place ≤ most) uses
places_within most inputs [] cs ds no_use h = All-nil (λ u. u.place ≤ most)
places_within most inputs (u ∷ uses) cs ds (one_use {ds = es} s more) h =
    let l = step_leads inputs u cs es s in
    let a = led_room u cs es l in
    let b = led_place u cs es l in
    let c = length_room cs in
    All-cons (λ u. u.place ≤ most) u uses (omega arith)
    (places_within most inputs uses es ds more (omega arith))

pub places_small : (inputs : ℕ) (uses : List Use) (cs ds : List Command) →
    Derives inputs uses cs ds → length cs ≤ 64 → All (λ u. u.place ≤ 4096) uses
places_small inputs uses cs ds d h = places_within 4096 inputs uses cs ds d (room_most cs h)
