-- Vertices that have one row each.
use Rattle.std.proofs.Common.{◌≡◌, ℕ, Bool, false, ◌||◌, map, List, [], ◌∷◌, ◌++◌, ◌∙◌, refl, ap}
use Rattle.std.specs.Prelude.{nat_eq}
use Rattle.std.specs.List.{list_any, IsDistinct}
use Rattle.std.proofs.lemmas.Cmp.{nat_eq_equiv}
use Rattle.std.proofs.lemmas.Map.Keys.{IsDistinct-push}
use Rattle.std.proofs.lemmas.List.{map-append}
use Rattle.mc_graph.specs.RowLists.{has_row, HaveOwnVertices}

any_mapped : {A : Type 0} (vertex : A → ℕ) (rows : List A) (v : ℕ) →
    list_any (nat_eq v) (map vertex rows) ≡ has_row vertex rows v
any_mapped vertex [] v = refl
any_mapped vertex (r ∷ rows) v = ap (λ (b : Bool). nat_eq v (vertex r) || b) (any_mapped vertex rows v)

pub no_vertices : {A : Type 0} (vertex : A → ℕ) → HaveOwnVertices vertex []
unfolding IsDistinct
no_vertices vertex = tt

-- one more row
pub own_more : {A : Type 0} (vertex : A → ℕ) (rows : List A) (row : A) →
    HaveOwnVertices vertex rows → has_row vertex rows (vertex row) ≡ false →
    HaveOwnVertices vertex (rows ++ (row ∷ []))
own_more vertex rows row own new =
    rw (map-append vertex rows (row ∷ []))
    (IsDistinct-push nat_eq_equiv (map vertex rows) (vertex row) own
    (any_mapped vertex rows (vertex row) ∙ new))

pub row_mapped : {A B : Type 0} (vertex : B → ℕ) (f : A → B) (rows : List A) (v : ℕ) →
    has_row vertex (map f rows) v ≡ has_row (λ r. vertex (f r)) rows v
row_mapped vertex f [] v = refl
row_mapped vertex f (r ∷ rows) v =
    ap (λ (b : Bool). nat_eq v (vertex (f r)) || b) (row_mapped vertex f rows v)
