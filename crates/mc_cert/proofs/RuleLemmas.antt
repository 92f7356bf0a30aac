-- No rule is broken exactly where each is kept.
use Rattle.std.proofs.Common.{◌≡◌, ℕ, suc, ◌+◌, arith, length, Bool, true, false, cond, List, []}
use Rattle.std.proofs.Common.{◌∷◌, ◌++◌, map, refl, sym, ◌∙◌, ap, ap₂}
use Rattle.std.specs.Prelude.{◌↔◌, Option, Some, None}
use Rattle.std.specs.List.{AllByRecursion}
use Rattle.std.proofs.lemmas.Option.{none-some}
use Rattle.mc_cert.specs.Rules.{Rule, Breach, least_broken, breach_or, first_broken, before_first}

abbrev pub IsKept : Rule → Type 0
IsKept r = r.broken ≡ false

kept_head : (r : Rule) (b : Bool) (rest : Option ℕ) → r.broken ≡ b →
    cond r.broken (Some r.number) rest ≡ None → (r.broken ≡ false) × (rest ≡ None)
kept_head r true rest e none =
    absurd (none-some r.number
    (sym none ∙ ap (λ (b : Bool). cond b (Some r.number) rest) e))
kept_head r false rest e none =
    (e, sym (ap (λ (b : Bool). cond b (Some r.number) rest) e) ∙ none)

pub all_kept : (rs : List Rule) → least_broken rs ≡ None → AllByRecursion IsKept rs
all_kept [] e = tt
all_kept (r ∷ rs) e =
    let parts = kept_head r r.broken (least_broken rs) refl e in (parts.0, all_kept rs parts.1)

pub none_broken : (rs : List Rule) → AllByRecursion IsKept rs → least_broken rs ≡ None
none_broken [] a = refl
none_broken (r ∷ rs) a =
    ap₂ (λ (b : Bool) (o : Option ℕ). cond b (Some r.number) o) a.0 (none_broken rs a.1)

no_breach : (n : ℕ) (o : Option ℕ) (rest : Option Breach) → breach_or n o rest ≡ None →
    (o ≡ None) × (rest ≡ None)
no_breach n None rest e = (refl, e)
no_breach n (Some k) rest e = absurd (none-some (record { row = n; rule = k }) (sym e))

abbrev pub BreaksNone : {A : Type 0} → (A → List Rule) → A → Type 0
BreaksNone rules r = least_broken (rules r) ≡ None

pub all_lines : {A : Type 0} (rules : A → List Rule) (last : List Rule) (n : ℕ) (rows : List A) →
    first_broken n (map rules rows ++ (last ∷ [])) ≡ None →
    AllByRecursion (BreaksNone rules) rows × (least_broken last ≡ None)
unfolding first_broken
all_lines rules last n [] e = (tt, (no_breach n (least_broken last) None e).0)
all_lines rules last n (r ∷ rs) e =
    let parts =
    no_breach n (least_broken (rules r)) (first_broken (suc n) (map rules rs ++ (last ∷ []))) e in
    let rest = all_lines rules last (suc n) rs parts.1 in
    ((parts.0, rest.0), rest.1)

pub no_lines : {A : Type 0} (rules : A → List Rule) (last : List Rule) (n : ℕ) (rows : List A) →
    AllByRecursion (BreaksNone rules) rows → least_broken last ≡ None →
    first_broken n (map rules rows ++ (last ∷ [])) ≡ None
unfolding first_broken
no_lines rules last n [] a e = ap (λ (o : Option ℕ). breach_or n o None) e
no_lines rules last n (r ∷ rs) a e =
    ap₂ (λ (o : Option ℕ) (p : Option Breach). breach_or n o p) a.0
    (no_lines rules last (suc n) rs a.1 e)

-- a certificate of one row
pub one_line : (n : ℕ) (rs : List Rule) → first_broken n (rs ∷ []) ≡ None →
    least_broken rs ≡ None
unfolding first_broken
one_line n rs e = (no_breach n (least_broken rs) None e).0

-- ---- lines in parts

pub split_lines : {A : Type 0} (rules : A → List Rule) (behind : List (List Rule)) (n : ℕ)
    (rows : List A) → first_broken n (map rules rows ++ behind) ≡ None →
    AllByRecursion (BreaksNone rules) rows × (first_broken (length rows + n) behind ≡ None)
unfolding first_broken
split_lines rules behind n [] e =
    let f : 0 + n ≡ n = omega arith in
    (tt, ap (λ (k : ℕ). first_broken k behind) f ∙ e)
split_lines rules behind n (r ∷ rs) e =
    let parts =
    no_breach n (least_broken (rules r)) (first_broken (suc n) (map rules rs ++ behind)) e in
    let rest = split_lines rules behind (suc n) rs parts.1 in
    let f : suc (length rs) + n ≡ length rs + suc n = omega arith in
    ((parts.0, rest.0), ap (λ (k : ℕ). first_broken k behind) f ∙ rest.1)

pub join_lines : {A : Type 0} (rules : A → List Rule) (behind : List (List Rule)) (n : ℕ)
    (rows : List A) → AllByRecursion (BreaksNone rules) rows →
    first_broken (length rows + n) behind ≡ None →
    first_broken n (map rules rows ++ behind) ≡ None
unfolding first_broken
join_lines rules behind n [] a e =
    let f : n ≡ 0 + n = omega arith in ap (λ (k : ℕ). first_broken k behind) f ∙ e
join_lines rules behind n (r ∷ rs) a e =
    let f : length rs + suc n ≡ suc (length rs) + n = omega arith in
    ap₂ (λ (o : Option ℕ) (p : Option Breach). breach_or n o p) a.0
    (join_lines rules behind (suc n) rs a.1 (ap (λ (k : ℕ). first_broken k behind) f ∙ e))

kept_append : (rs ss : List Rule) → AllByRecursion IsKept (rs ++ ss) →
    AllByRecursion IsKept rs × AllByRecursion IsKept ss
kept_append [] ss a = (tt, a)
kept_append (r ∷ rs) ss a =
    let rest = kept_append rs ss a.1 in ((a.0, rest.0), rest.1)

append_kept : (rs ss : List Rule) → AllByRecursion IsKept rs → AllByRecursion IsKept ss →
    AllByRecursion IsKept (rs ++ ss)
append_kept [] ss a b = b
append_kept (r ∷ rs) ss a b = (a.0, append_kept rs ss a.1 b)

pub split_before : (rules : List Rule) (n : ℕ) (lines : List (List Rule)) →
    first_broken n (before_first rules lines) ≡ None →
    (least_broken rules ≡ None) × (first_broken n lines ≡ None)
unfolding first_broken
split_before rules n [] e = ((no_breach n (least_broken rules) None e).0, refl)
split_before rules n (line ∷ lines) e =
    let parts =
    no_breach n (least_broken (rules ++ line)) (first_broken (suc n) lines) e in
    let kept = kept_append rules line (all_kept (rules ++ line) parts.0) in (
      none_broken rules kept.0,
      ap₂ (λ (o : Option ℕ) (p : Option Breach). breach_or n o p) (none_broken line kept.1) parts.1,
    )

pub join_before : (rules : List Rule) (n : ℕ) (lines : List (List Rule)) →
    least_broken rules ≡ None → first_broken n lines ≡ None →
    first_broken n (before_first rules lines) ≡ None
unfolding first_broken
join_before rules n [] e h = ap (λ (o : Option ℕ). breach_or n o None) e
join_before rules n (line ∷ lines) e h =
    let parts = no_breach n (least_broken line) (first_broken (suc n) lines) h in
    ap₂ (λ (o : Option ℕ) (p : Option Breach). breach_or n o p)
    (none_broken (rules ++ line)
    (append_kept rules line (all_kept rules e) (all_kept line parts.0)))
    parts.1

-- what decides a verdict decides what it names
pub names_none : (P : Type 0) (o p : Option Breach) → o ≡ p → (p ≡ None) ↔ P → (o ≡ None) ↔ P
names_none P o p e h = ((λ f. h.0 (sym e ∙ f)), λ f. e ∙ h.1 f)
