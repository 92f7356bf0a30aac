-- How many commands a rule concerns, and what they are where a use leads somewhere.
use Rattle.std.proofs.Common.{◌≡◌, ℕ, ◌+◌, List, [], ◌∷◌, ◌++◌, length, refl, ap, arith}
use mathlib.Core.Logic.{inl, inr}
use Rattle.mc_model.specs.Pattern.{Command}
use Rattle.mc_model.specs.Derivation.{Rule, XE, ZE, XM, ZM, Swap, Join, EE, Cancel, XZ, Turn}
use Rattle.mc_model.specs.Derivation.{DropEmpty, Rewrites, x_first, x_second, z_first, z_second}
use Rattle.mc_model.specs.Derivation.{x_measured, z_measured, swapped, x_joined, z_joined}
use Rattle.mc_model.specs.Derivation.{edges_exchanged, same_cancelled, turned_cancelled, x_behind_z}
use Rattle.mc_model.specs.Derivation.{z_behind_x, turned, x_dropped, z_dropped, Use, Derives}
use Rattle.mc_model.specs.Derivation.{no_use, one_use}
use Rattle.mc_derivations.specs.Following.{rule_reach, Leads, LacksCommands}
use Rattle.mc_derivations.proofs.CutLists.{cut_same}
use Rattle.std.proofs.Common.{suc, sym, ◌∙◌}

pub rewritten_reach : (rule : Rule) (old new : List Command) → Rewrites rule old new →
    length old ≡ rule_reach rule
rewritten_reach XE _ _ (x_first {i} {j} {s}) = refl
rewritten_reach XE _ _ (x_second {i} {j} {s}) = refl
rewritten_reach ZE _ _ (z_first {i} {j} {s}) = refl
rewritten_reach ZE _ _ (z_second {i} {j} {s}) = refl
rewritten_reach XM _ _ (x_measured {i} {a} {r} {s} {t}) = refl
rewritten_reach ZM _ _ (z_measured {i} {a} {r} {s} {t}) = refl
rewritten_reach Swap _ _ (swapped {c} {d} apart free) = refl
rewritten_reach Join _ _ (x_joined {i} {s} {t}) = refl
rewritten_reach Join _ _ (z_joined {i} {s} {t}) = refl
rewritten_reach EE _ _ (edges_exchanged {i} {j} {q} {r}) = refl
rewritten_reach Cancel _ _ (same_cancelled {i} {j}) = refl
rewritten_reach Cancel _ _ (turned_cancelled {i} {j}) = refl
rewritten_reach XZ _ _ (x_behind_z {i} {s} {t}) = refl
rewritten_reach XZ _ _ (z_behind_x {i} {s} {t}) = refl
rewritten_reach Turn _ _ (turned {i} {j}) = refl
rewritten_reach DropEmpty _ _ (x_dropped {i}) = refl
rewritten_reach DropEmpty _ _ (z_dropped {i}) = refl

-- the commands of a rule that leads somewhere exist
pub leads_exist : (u : Use) (cs ds : List Command) → Leads u cs ds → LacksCommands u cs → ⊥
leads_exist u cs ds l lacks =
    let at = l.at_place in
    let long = rewritten_reach u.rule l.old l.new l.rewrites in
    let whole = ap length l.from_list in
    let a = length-append l.before (l.old ++ l.behind) in
    let b = length-append l.old l.behind in
    elim lacks [
      | inl z ↦ absurd (omega arith)
      | inr z ↦ absurd (omega arith)
    ]
  where
    length-append : (xs ys : List Command) → length (xs ++ ys) ≡ length xs + length ys
    length-append [] ys = omega arith
    length-append (x ∷ xs) ys = let h = length-append xs ys in omega arith

-- derivations one behind the other
pub derives_on : (inputs : ℕ) (us vs : List Use) (cs ds es : List Command) →
    Derives inputs us cs ds → Derives inputs vs ds es → Derives inputs (us ++ vs) cs es
derives_on inputs [] vs cs ds es no_use k = k
derives_on inputs (u ∷ us) vs cs ds es (one_use {ds = mid} s more) k =
    one_use s (derives_on inputs us vs mid ds es more k)

-- a use that leads somewhere concerns the commands that stand at its place
pub same_old : (u : Use) (cs ds before old behind : List Command) → (l : Leads u cs ds) →
    cs ≡ before ++ (old ++ behind) → u.place ≡ suc (length before) →
    length old ≡ rule_reach u.rule → l.old ≡ old
same_old u cs ds before old behind l is at long =
    let a = l.at_place in
    let front = cut_same l.before before (l.old ++ l.behind) (old ++ behind) (omega arith)
    (sym l.from_list ∙ is) in
    (cut_same l.old old l.behind behind
    (rewritten_reach u.rule l.old l.new l.rewrites ∙ sym long) front.1).0
