-- The first broken rule, as a loop over the rows finds it.
use Rattle.std.proofs.Common.{◌≡◌, ℕ, suc, Bool, true, false, cond, ◌+◌, List, [], ◌∷◌, ◌++◌}
use Rattle.std.proofs.Common.{length, map, drop, refl, sym, ◌∙◌, ap, arith}
use Rattle.std.specs.Prelude.{slice_get, Option, Some, None}
use Rattle.std.proofs.lemmas.List.{drop_all}
use Rattle.mc_cert.specs.Rules.{Rule, breach, least_broken, breach_or, first_broken, before_first}
use Rattle.mc_cert.proofs.ListTests.{drop_at}

-- the rows from the place `i` on, and what is behind them, break what all break; the first has the
-- number `n`
abbrev pub RowsLeft : {A : Type 0} → (A → List Rule) → List (List Rule) → ℕ → List A → ℕ → Type 0
RowsLeft rules behind n rows i =
    first_broken (i + n) (map rules (drop i rows) ++ behind)
    ≡ first_broken n (map rules rows ++ behind)

pub none_left : {A : Type 0} (rules : A → List Rule) (behind : List (List Rule)) (n : ℕ)
    (rows : List A) → RowsLeft rules behind n rows 0
none_left rules behind n rows =
    let e : 0 + n ≡ n = omega arith in
    ap (λ (k : ℕ). first_broken k (map rules rows ++ behind)) e

row_here : {A : Type 0} (rules : A → List Rule) (behind : List (List Rule)) (n : ℕ)
    (rows : List A) (i : ℕ) (r : A) → slice_get rows i ≡ Some r →
    first_broken (i + n) (map rules (drop i rows) ++ behind)
    ≡ breach_or (i + n) (least_broken (rules r))
    (first_broken (i + 1 + n) (map rules (drop (i + 1) rows) ++ behind))
unfolding first_broken
row_here rules behind n rows i r e =
    let f : suc (i + n) ≡ i + 1 + n = omega arith in
    ap (λ (rs : List _). first_broken (i + n) (map rules rs ++ behind)) (drop_at rows i r e)
    ∙ ap (λ (k : ℕ). breach_or (i + n) (least_broken (rules r))
    (first_broken k (map rules (drop (i + 1) rows) ++ behind))) f

pub row_breaks : {A : Type 0} (rules : A → List Rule) (behind : List (List Rule)) (n : ℕ)
    (rows : List A) (i : ℕ) (r : A) (k : ℕ) → slice_get rows i ≡ Some r →
    least_broken (rules r) ≡ Some k → RowsLeft rules behind n rows i →
    Some (breach (i + n) k) ≡ first_broken n (map rules rows ++ behind)
row_breaks rules behind n rows i r k e broken left =
    sym (sym left ∙ row_here rules behind n rows i r e
    ∙ ap (λ (o : Option ℕ). breach_or (i + n) o
    (first_broken (i + 1 + n) (map rules (drop (i + 1) rows) ++ behind))) broken)

pub row_keeps : {A : Type 0} (rules : A → List Rule) (behind : List (List Rule)) (n : ℕ)
    (rows : List A) (i : ℕ) (r : A) → slice_get rows i ≡ Some r → least_broken (rules r) ≡ None →
    RowsLeft rules behind n rows i → RowsLeft rules behind n rows (i + 1)
row_keeps rules behind n rows i r e none left =
    sym (sym left ∙ row_here rules behind n rows i r e
    ∙ ap (λ (o : Option ℕ). breach_or (i + n) o
    (first_broken (i + 1 + n) (map rules (drop (i + 1) rows) ++ behind))) none)

-- all rows are gone through
pub rows_done : {A : Type 0} (rules : A → List Rule) (behind : List (List Rule)) (n : ℕ)
    (rows : List A) (i : ℕ) → i ≡ length rows → RowsLeft rules behind n rows i →
    first_broken (length rows + n) behind ≡ first_broken n (map rules rows ++ behind)
rows_done rules behind n rows i l left =
    ap (λ (k : ℕ). first_broken (k + n) behind) (sym l)
    ∙ ap (λ (rs : List _). first_broken (i + n) (map rules rs ++ behind))
    (sym (drop_all i rows (omega arith)))
    ∙ left

-- behind the rows stands one more, without a vertex
pub rows_end : {A : Type 0} (rules : A → List Rule) (last : List Rule) (n : ℕ) (rows : List A)
    (i : ℕ) → i ≡ length rows → RowsLeft rules (last ∷ []) n rows i →
    breach_or (length rows + n) (least_broken last) None
    ≡ first_broken n (map rules rows ++ (last ∷ []))
unfolding first_broken
rows_end rules last n rows i l left = rows_done rules (last ∷ []) n rows i l left

-- ---- rules that stand before those of a row

or_else : Option ℕ → Option ℕ → Option ℕ
or_else None o = o
or_else (Some k) o = Some k

least_append : (rs ss : List Rule) →
    least_broken (rs ++ ss) ≡ or_else (least_broken rs) (least_broken ss)
unfolding or_else
least_append [] ss = refl
least_append (r ∷ rs) ss =
    ap (λ (o : Option ℕ). cond r.broken (Some r.number) o) (least_append rs ss)
    ∙ by r.broken (least_broken rs)
  where
    by : (b : Bool) (o : Option ℕ) →
        cond b (Some r.number) (or_else o (least_broken ss))
        ≡ or_else (cond b (Some r.number) o) (least_broken ss)
    by true o = refl
    by false o = refl

-- a rule of those before is broken
pub first_breaks : (rules : List Rule) (k n : ℕ) (lines : List (List Rule)) →
    least_broken rules ≡ Some k →
    Some (breach n k) ≡ first_broken n (before_first rules lines)
unfolding first_broken or_else
first_breaks rules k n [] e = sym (ap (λ (o : Option ℕ). breach_or n o None) e)
first_breaks rules k n (line ∷ lines) e =
    sym (ap (λ (o : Option ℕ). breach_or n o (first_broken (suc n) lines))
    (least_append rules line ∙ ap (λ (o : Option ℕ). or_else o (least_broken line)) e))

-- none of those before is broken
pub first_keeps : (rules : List Rule) (n : ℕ) (lines : List (List Rule)) →
    least_broken rules ≡ None →
    first_broken n lines ≡ first_broken n (before_first rules lines)
unfolding first_broken or_else
first_keeps rules n [] e = sym (ap (λ (o : Option ℕ). breach_or n o None) e)
first_keeps rules n (line ∷ lines) e =
    sym (ap (λ (o : Option ℕ). breach_or n o (first_broken (suc n) lines))
    (least_append rules line ∙ ap (λ (o : Option ℕ). or_else o (least_broken line)) e))
