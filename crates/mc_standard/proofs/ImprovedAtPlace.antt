-- What is picked for the commands at a place improves the list that they stand in.
use Rattle.std.proofs.Common.{◌≡◌, ℕ, suc, ◌+◌, ◌-◌, ◌<◌, ◌≤◌, List, [], ◌∷◌}
use Rattle.std.proofs.Common.{◌++◌, map}
use Rattle.std.proofs.Common.{length, take, drop, get_or, refl, sym, ◌∙◌, ap, ap₂, subst, arith}
use Rattle.std.proofs.lemmas.List.{get_or-append-add, map-append, length-map}
use Rattle.std.proofs.Math.Seq.{get_or-append_seam, take-append_seam, drop-append_seam}
use Rattle.std.proofs.Math.Seq.{take-append-add}
use Rattle.std.proofs.Math.ListN.{get_or-map}
use Rattle.mc_model.specs.Pattern.{Command}
use Rattle.mc_model.specs.Valid.{IsValid, OperandsDiffer}
use Rattle.mc_model.specs.Derivation.{Rule, Cancel}
use Rattle.mc_model.specs.Derivation.{part}
use Rattle.mc_standard.specs.declared.change.Change.{Change}
use Rattle.mc_standard.specs.declared.change.Change.TheVariants as change
use Rattle.mc_standard.specs.declared.change.Rewrite.{Rewrite}
use Rattle.mc_standard.specs.Changes.{reach, changed, Passes, SettlesTwo, SettlesOne}
use Rattle.mc_rules.specs.Improves.{Improvement}
use Rattle.mc_standard.specs.Places.{part_at, PassesAt, SettlesAt, IsTidyAt, FollowsAt}
use Rattle.mc_rules.specs.Settled.{IsTidy, Follows, InOrder}
use Rattle.mc_standard.specs.Uses.{plain_rule}
use Rattle.mc_standard.proofs.Edits.{one_at, two_at}
use Rattle.mc_rules.proofs.NearerUses.{passing_improves, settling_two_improves}
use Rattle.mc_rules.proofs.NearerUses.{settling_one_improves}

-- ---- reads

-- the list with two commands at a place
pub record IsTwo (cs : List Command) (i : ℕ) (c d : Command) : Type 0 where
  pub before : List Command
  pub behind : List Command
  pub is : cs ≡ before ++ (c ∷ d ∷ behind)
  pub at : i ≡ length before

pub record IsOne (cs : List Command) (i : ℕ) (c : Command) : Type 0 where
  pub before : List Command
  pub behind : List Command
  pub is : cs ≡ before ++ (c ∷ behind)
  pub at : i ≡ length before

here_is : (cs before : List Command) (c x : Command) (behind : List Command) (i : ℕ) →
    cs ≡ before ++ (c ∷ behind) → i ≡ length before → x ≡ get_or cs i x → x ≡ c
here_is cs before c x behind i is at read = read
    ∙ ap₂ (λ (xs : List Command) (n : ℕ). get_or xs n x) is at
    ∙ get_or-append_seam before c behind x

next_is : (cs before : List Command) (c d x : Command) (behind : List Command) (i : ℕ) →
    cs ≡ before ++ (c ∷ d ∷ behind) → i ≡ length before → x ≡ get_or cs (i + 1) x → x ≡ d
next_is cs before c d x behind i is at read = read
    ∙ ap₂ (λ (xs : List Command) (n : ℕ). get_or xs (n + 1) x) is at
    ∙ get_or-append-add before (c ∷ d ∷ behind) 1 x

two_here : (cs : List Command) (i : ℕ) (c d : Command) → i + 2 ≤ length cs → c ≡ get_or cs i c →
    d ≡ get_or cs (i + 1) d → IsTwo cs i c d
two_here cs i c d h e f =
    let p = two_at cs i h in
    let first = here_is cs p.before p.here c (p.next ∷ p.behind) i p.is p.at e in
    let second = next_is cs p.before p.here p.next d p.behind i p.is p.at f in
    record {
      before = p.before;
      behind = p.behind;
      is = p.is ∙ ap₂ (λ (x y : Command). p.before ++ (x ∷ y ∷ p.behind)) (sym first) (sym second);
      at = p.at;
    }

one_here : (cs : List Command) (i : ℕ) (c : Command) → i + 1 ≤ length cs → c ≡ get_or cs i c →
    IsOne cs i c
one_here cs i c h e =
    let p = one_at cs i h in
    let first = here_is cs p.before p.here c p.behind i p.is p.at e in
    record {
      before = p.before;
      behind = p.behind;
      is = p.is ∙ ap (λ (x : Command). p.before ++ (x ∷ p.behind)) (sym first);
      at = p.at;
    }

pub part_here : (before : List Command) (c : Command) (behind : List Command) →
    part_at (before ++ (c ∷ behind)) (length before) ≡ part c
part_here before c behind =
    ap₂ (λ (ps : List ℕ) (n : ℕ). get_or ps n 0) (map-append part before (c ∷ behind))
    (sym (length-map before part))
    ∙ get_or-append_seam (map part before) (part c) (map part behind) 0

pub part_next : (before : List Command) (c d : Command) (behind : List Command) →
    part_at (before ++ (c ∷ d ∷ behind)) (length before + 1) ≡ part d
part_next before c d behind =
    ap₂ (λ (ps : List ℕ) (n : ℕ). get_or ps (n + 1) 0) (map-append part before (c ∷ d ∷ behind))
    (sym (length-map before part))
    ∙ get_or-append-add (map part before) (part c ∷ part d ∷ map part behind) 1 0

-- ---- a change at a place

changed_two : {h : ℕ} (ch : Change h) (c d : Command) (behind : List Command) → reach ch ≡ 2 →
    changed ch (c ∷ d ∷ behind) ≡ changed ch (c ∷ d ∷ []) ++ behind
changed_two change.Exchange c d behind e = refl
changed_two (change.Add x) c d behind e = refl
changed_two (change.Merge x) c d behind e = refl
changed_two change.Cancel c d behind e = refl
changed_two (change.Put x) c d behind e = absurd (omega arith)
changed_two change.Remove c d behind e = absurd (omega arith)

changed_one : {h : ℕ} (ch : Change h) (c : Command) (behind : List Command) → reach ch ≡ 1 →
    changed ch (c ∷ behind) ≡ changed ch (c ∷ []) ++ behind
changed_one change.Exchange c behind e = absurd (omega arith)
changed_one (change.Add x) c behind e = absurd (omega arith)
changed_one (change.Merge x) c behind e = absurd (omega arith)
changed_one change.Cancel c behind e = absurd (omega arith)
changed_one (change.Put x) c behind e = refl
changed_one change.Remove c behind e = refl

-- the new list, by the commands before its place and those behind
new_list : {h : ℕ} (ch : Change h) (cs ds before old behind : List Command) (i : ℕ) →
    cs ≡ before ++ (old ++ behind) → i ≡ length before →
    changed ch (old ++ behind) ≡ changed ch old ++ behind →
    ds ≡ take i cs ++ changed ch (drop i cs) → ds ≡ before ++ (changed ch old ++ behind)
new_list ch cs ds before old behind i is at local to =
    to
    ∙ ap₂ (λ (xs ys : List Command). xs ++ changed ch ys)
    (ap₂ (λ (n : ℕ) (xs : List Command). take n xs) at is
    ∙ take-append_seam before (old ++ behind))
    (ap₂ (λ (n : ℕ) (xs : List Command). drop n xs) at is
    ∙ drop-append_seam before (old ++ behind))
    ∙ ap (λ (ys : List Command). before ++ ys) local

improved_there : (inputs : ℕ) (rule : Rule) (k l : ℕ) (cs ds es fs : List Command) → k ≡ l →
    cs ≡ es → ds ≡ fs → Improvement inputs rule l es fs → Improvement inputs rule k cs ds
improved_there inputs rule k l cs ds es fs e f g w = rw (e, f, g) w

-- ---- the first command out of order

pub passed_at : {h : ℕ} (rewrite : Rewrite h) (cs ds : List Command) (k : ℕ) (c d : Command) →
    0 < k → k < length cs → c ≡ get_or cs (k - 1) c → d ≡ get_or cs k d → Passes rewrite c d →
    ds ≡ take (k - 1) cs ++ changed rewrite.change (drop (k - 1) cs) →
    PassesAt (plain_rule rewrite.rule) k cs ds
passed_at rewrite cs ds k c d positive within first second passes to =
    let next : k - 1 + 1 ≡ k = omega arith in
    let p : IsTwo cs (k - 1) c d =
    two_here cs (k - 1) c d (omega arith) first
    (second ∙ ap (λ (n : ℕ). get_or cs n d) (sym next)) in
    let new = changed rewrite.change (c ∷ d ∷ []) in
    let place : k ≡ suc (length p.before) = let e = p.at in omega arith in
    let place_next : k ≡ length p.before + 1 = omega arith in
    let at = new_list rewrite.change cs ds p.before (c ∷ d ∷ []) p.behind (k - 1) p.is p.at
    (changed_two rewrite.change c d p.behind passes.0) to in
    let front : take k cs ≡ p.before ++ (c ∷ []) =
    ap₂ (λ (n : ℕ) (xs : List Command). take n xs) place_next p.is
    ∙ take-append-add p.before (c ∷ d ∷ p.behind) 1 in
    let c_part : part_at cs (k - 1) ≡ part c =
    ap₂ (λ (xs : List Command) (n : ℕ). part_at xs n) p.is p.at
    ∙ part_here p.before c (d ∷ p.behind) in
    let d_part : part_at cs k ≡ part d =
    ap₂ (λ (xs : List Command) (n : ℕ). part_at xs n) p.is place_next
    ∙ part_next p.before c d p.behind in
    λ inputs v order early.
    let less : part d < part c = let e = early.1 in omega arith in
    let valid : IsValid inputs (p.before ++ (c ∷ d ∷ p.behind)) = subst (IsValid inputs) p.is v in
    let w = passing_improves inputs (plain_rule rewrite.rule) p.before c d new p.behind valid
    (subst InOrder front order) less (λ may. passes.1 may less) in
    improved_there inputs (plain_rule rewrite.rule) _ _ cs ds _ _ place p.is at w

-- ---- commands in order

pub settled_two_at : {h : ℕ} (rewrite : Rewrite h) (cs ds : List Command) (k : ℕ) (c d : Command) →
    k + 1 < length cs → c ≡ get_or cs k c → d ≡ get_or cs (k + 1) d → SettlesTwo rewrite c d →
    ds ≡ take k cs ++ changed rewrite.change (drop k cs) →
    SettlesAt (plain_rule rewrite.rule) (k + 1) cs ds
settled_two_at rewrite cs ds k c d within first second settles to =
    let p : IsTwo cs k c d = two_here cs k c d (omega arith) first second in
    let new = changed rewrite.change (c ∷ d ∷ []) in
    let place : k + 1 ≡ suc (length p.before) = let e = p.at in omega arith in
    let at = new_list rewrite.change cs ds p.before (c ∷ d ∷ []) p.behind k p.is p.at
    (changed_two rewrite.change c d p.behind settles.two) to in
    λ inputs v order.
    let valid : IsValid inputs (p.before ++ (c ∷ d ∷ p.behind)) = subst (IsValid inputs) p.is v in
    let in_order : InOrder (p.before ++ (c ∷ d ∷ p.behind)) = subst InOrder p.is order in
    improved_there inputs (plain_rule rewrite.rule) _ _ cs ds _ _ place p.is at
    (settling_two_improves inputs (plain_rule rewrite.rule) p.before c d new p.behind valid in_order
    settles.used (settles.one_part, settles.nearer))

pub settled_one_at : {h : ℕ} (rewrite : Rewrite h) (cs ds : List Command) (k : ℕ) (c : Command) →
    k < length cs → c ≡ get_or cs k c → SettlesOne rewrite c →
    ds ≡ take k cs ++ changed rewrite.change (drop k cs) →
    SettlesAt (plain_rule rewrite.rule) (k + 1) cs ds
settled_one_at rewrite cs ds k c within first settles to =
    let p : IsOne cs k c = one_here cs k c (omega arith) first in
    let new = changed rewrite.change (c ∷ []) in
    let place : k + 1 ≡ suc (length p.before) = let e = p.at in omega arith in
    let at = new_list rewrite.change cs ds p.before (c ∷ []) p.behind k p.is p.at
    (changed_one rewrite.change c p.behind settles.one) to in
    λ inputs v order.
    improved_there inputs (plain_rule rewrite.rule) _ _ cs ds _ _ place p.is at
    (settling_one_improves inputs (plain_rule rewrite.rule) p.before c new p.behind
    (subst (IsValid inputs) p.is v) (subst InOrder p.is order) settles.used settles.nearer)

-- ---- nothing to do

pub tidy_at : (cs : List Command) (k : ℕ) (c : Command) → c ≡ get_or cs k c →
    (OperandsDiffer c → IsTidy c) → IsTidyAt k cs
tidy_at cs k c read tidy = λ before x behind is at.
    subst (λ (y : Command). OperandsDiffer y → IsTidy y)
    (here_is cs before x c behind k is at read) tidy

pub follows_at : (cs : List Command) (k : ℕ) (c d : Command) → c ≡ get_or cs k c →
    d ≡ get_or cs (k + 1) d → (part c ≤ part d → Follows c d) → FollowsAt k cs
follows_at cs k c d first second follows = λ before x y behind is at.
    let e = here_is cs before x c (y ∷ behind) k is at first in
    let f = next_is cs before x y d behind k is at second in
    subst (λ (z : Command). part x ≤ part z → Follows x z) f
    (subst (λ (z : Command). part z ≤ part d → Follows z d) e follows)

-- a read of a list through a map
pub read_at : {X Y : Type 0} (f : X → Y) (xs : List X) (i : ℕ) (x : X) → x ≡ get_or xs i x →
    f x ≡ get_or (map f xs) i (f x)
read_at f xs i x e = ap f e ∙ sym (get_or-map f xs i x)
