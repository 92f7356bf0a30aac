-- What has one row has none before it.
use Rattle.std.proofs.Common.{◌≡◌, ℕ, Bool, false, ◌&&◌, ◌||◌, List, [], ◌∷◌, ◌++◌, map, refl}
use Rattle.std.proofs.Common.{None, nat_eq, arith}
use Rattle.std.specs.List.{list_any, IsDistinct, AllByRecursion}
use Rattle.std.proofs.lemmas.Bool.Decides.{nat_tests}
use Rattle.mc_graph.specs.RowLists.{has_row, HaveOwnVertices}
use Rattle.mc_cert.specs.BoundRecords.{BoundRow}
use Rattle.mc_cert.specs.BoundRules.{is_for, AreApart}
use Rattle.mc_text.specs.declared.fault.Fault.TheVariants.{RowTwice}
use Rattle.mc_text.specs.Rules.{broken}

neither : (a b : Bool) → a ≡ false → b ≡ false → (a || b) ≡ false
neither a b e f = rw (e, f) refl

-- a vertex that has one row has none before it
at_row : {A : Type 0} (P : ℕ → Type 0) (vertex : A → ℕ) (before : List A) (r : A) (rows : List A)
    → AllByRecursion P (map vertex (before ++ r ∷ rows)) → P (vertex r)
at_row P vertex [] r rows all = all.0
at_row P vertex (b ∷ before) r rows all = at_row P vertex before r rows all.1

own_free : {A : Type 0} (vertex : A → ℕ) (before : List A) (r : A) (rows : List A)
    → HaveOwnVertices vertex (before ++ r ∷ rows) → has_row vertex before (vertex r) ≡ false
unfolding IsDistinct
own_free vertex [] r rows own = refl
own_free vertex (b ∷ before) r rows own =
    neither (nat_eq (vertex r) (vertex b)) (has_row vertex before (vertex r))
    (turned (vertex b) (vertex r)
    (at_row (λ v. nat_eq (vertex b) v ≡ false) vertex before r rows own.0))
    (own_free vertex before r rows own.1)
  where
    turned : (v w : ℕ) → nat_eq v w ≡ false → nat_eq w v ≡ false
    turned v w e = grind (arith, nat_tests)

pub not_twice : {A : Type 0} (vertex : A → ℕ) (found before : List A) (r : A) (rows : List A)
    → found ≡ before → HaveOwnVertices vertex (before ++ r ∷ rows)
    → broken ((has_row vertex found (vertex r), RowTwice) ∷ []) ≡ None
not_twice vertex found before r rows e own =
    let free = own_free vertex before r rows own in rw (e, free) refl

-- a layer and a vertex that have one set have none before it
at_set : (P : BoundRow → Type 0) (before : List BoundRow) (r : BoundRow) (rows : List BoundRow)
    → AllByRecursion P (before ++ r ∷ rows) → P r
at_set P [] r rows all = all.0
at_set P (b ∷ before) r rows all = at_set P before r rows all.1

pair_turned : (a b c d : ℕ) → (nat_eq a c && nat_eq b d) ≡ false
    → (nat_eq c a && nat_eq d b) ≡ false
pair_turned a b c d e = grind (arith, nat_tests)

set_free : (before : List BoundRow) (r : BoundRow) (rows : List BoundRow)
    → AreApart (before ++ r ∷ rows) → list_any (is_for r.k r.vertex) before ≡ false
unfolding IsDistinct
set_free [] r rows apart = refl
set_free (b ∷ before) r rows apart =
    neither (is_for r.k r.vertex b) (list_any (is_for r.k r.vertex) before)
    (pair_turned b.k b.vertex r.k r.vertex
    (at_set (λ s. is_for b.k b.vertex s ≡ false) before r rows apart.0))
    (set_free before r rows apart.1)

pub set_not_twice : (found before : List BoundRow) (r : BoundRow) (rows : List BoundRow)
    → found ≡ before → AreApart (before ++ r ∷ rows)
    → broken ((list_any (is_for r.k r.vertex) found, RowTwice) ∷ []) ≡ None
set_not_twice found before r rows e apart =
    let free = set_free before r rows apart in rw (e, free) refl
