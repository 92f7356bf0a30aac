-- Rows for layers and vertices of which it can be told whether they are due: all rows that are due
-- can be listed in order, and then no two are for the same layer and vertex.
use Rattle.std.proofs.Common.{◌≡◌, ℕ, zero, suc, ◌+◌, ◌<◌, ◌≤◌, false, ◌&&◌, List, []}
use Rattle.std.proofs.Common.{◌∷◌, ◌++◌, map, ap, subst, arith, inl, inr}
use Rattle.std.specs.Prelude.{nat_eq, All}
use Rattle.std.specs.List.{AllByRecursion, IsDistinct}
use Rattle.std.proofs.lemmas.Bool.{ne_eqb}
use Rattle.std.proofs.lemmas.Bool.Decides.{nat_tests}
use Rattle.std.proofs.lemmas.List.Elements.{All-head, All-tail}
use Rattle.mc_graph.specs.RowLists.{HaveOwnVertices}
use Rattle.mc_least.specs.Listed.{ComesBefore, Rises, Lists}
use Rattle.mc_least.proofs.ListedRows.{none_listed, row_skipped, row_pushed, layer_ended}
use Rattle.mc_chosen.proofs.LeastSets.{Decided}

module _ {A : Type 0} (level vertex : A → ℕ) (IsDue : ℕ → ℕ → Type 0) (P : A → Type 0) where
  -- the rows that are due before the layer `k` and the vertex `x`, in order
  pub record AreListed (k x : ℕ) : Type 0 where
    pub rows : List A
    pub listed : Lists level vertex IsDue P k x rows

  module _ (make : ℕ → ℕ → A) (at_level : (j v : ℕ) → level (make j v) ≡ j)
      (at_vertex : (j v : ℕ) → vertex (make j v) ≡ v)
      (made : (j v : ℕ) → IsDue j v → P (make j v)) (decided : (j v : ℕ) → Decided (IsDue j v))
      (n : ℕ) (within : (j v : ℕ) → IsDue j v → (1 ≤ j) × (v < n)) where
    next_vertex : (k x : ℕ) → AreListed k x → AreListed k (x + 1)
    next_vertex k x a = elim (decided k x) [
      | inl due ↦ record {
        rows = a.rows ++ make k x ∷ [];
        listed = row_pushed level vertex IsDue P k x a.rows (make k x) a.listed (made k x due)
            (at_level k x) (at_vertex k x);
      }
      | inr not_due ↦ record {
        rows = a.rows;
        listed = row_skipped level vertex IsDue P k x a.rows a.listed not_due;
      }
    ]

    vertices_to : (k x : ℕ) → AreListed k 0 → AreListed k x
    vertices_to k zero a = a
    vertices_to k (suc x) a =
        let next : x + 1 ≡ suc x = omega arith in
        subst (AreListed k) next (next_vertex k x (vertices_to k x a))

    next_layer : (k : ℕ) → AreListed k 0 → AreListed (k + 1) 0
    next_layer k a =
        let whole : AreListed k n = vertices_to k n a in
        record {
          rows = whole.rows;
          listed = layer_ended level vertex IsDue P n k whole.rows
              (λ j v due. (within j v due).1) whole.listed;
        }

    -- up to the layer `k`
    pub all_listed : (k : ℕ) → AreListed (k + 1) 0
    all_listed zero =
        let first : 1 ≡ zero + 1 = omega arith in
        subst (λ (k : ℕ). AreListed k 0) first
        (record {
          rows = [];
          listed = none_listed level vertex IsDue P (λ j v due. (within j v due).0);
        })
    all_listed (suc k) =
        let next : k + 1 + 1 ≡ suc k + 1 = omega arith in
        subst (λ (j : ℕ). AreListed j 0) next (next_layer (k + 1) (all_listed k))

-- ---- rows in order

not_of_one : (j v k x : ℕ) → ComesBefore j v k x → (nat_eq j k && nat_eq v x) ≡ false
not_of_one j v k x (inl lt) = grind (arith, nat_tests)
not_of_one j v k x (inr (e, lt)) = grind (arith, nat_tests)

module _ {A : Type 0} (level vertex : A → ℕ) where
  abbrev IsBehind : A → A → Type 0
  IsBehind r s = ComesBefore (level r) (vertex r) (level s) (vertex s)

  apart_from : (r : A) (rows : List A) → All (IsBehind r) rows →
      AllByRecursion (λ s. (nat_eq (level r) (level s) && nat_eq (vertex r) (vertex s)) ≡ false)
      rows
  apart_from r [] behind = tt
  apart_from r (s ∷ rows) behind = (
    not_of_one (level r) (vertex r) (level s) (vertex s) (All-head (IsBehind r) s rows behind),
    apart_from r rows (All-tail (IsBehind r) s rows behind),
  )

  -- no two are for the same layer and vertex
  pub rows_apart : (rows : List A) → Rises level vertex rows →
      IsDistinct (λ r s. nat_eq (level r) (level s) && nat_eq (vertex r) (vertex s)) rows
  unfolding IsDistinct
  rows_apart [] h = tt
  rows_apart (r ∷ rows) h = (apart_from r rows h.0, rows_apart rows h.1)

  module _ (layer : ℕ → ℕ) where
    abbrev HasItsLayer : A → Type 0
    HasItsLayer r = level r ≡ layer (vertex r)

    differ : (r s : A) → HasItsLayer r → HasItsLayer s → IsBehind r s → vertex r ≡ vertex s → ⊥
    differ r s here there (inl lt) same = let e = ap layer same in omega arith
    differ r s here there (inr e) same = let lt = e.1 in omega arith

    other_vertices : (r : A) (rows : List A) → HasItsLayer r → All HasItsLayer rows →
        All (IsBehind r) rows → AllByRecursion (λ v. nat_eq (vertex r) v ≡ false) (map vertex rows)
    other_vertices r [] here all behind = tt
    other_vertices r (s ∷ rows) here all behind = (
      ne_eqb (vertex r) (vertex s)
          (differ r s here (All-head HasItsLayer s rows all)
          (All-head (IsBehind r) s rows behind)),
      other_vertices r rows here (All-tail HasItsLayer s rows all)
          (All-tail (IsBehind r) s rows behind),
    )

    -- where each row has its vertex's layer, no two are of the same vertex
    pub own_vertices : (rows : List A) → All HasItsLayer rows → Rises level vertex rows →
        HaveOwnVertices vertex rows
    unfolding IsDistinct
    own_vertices [] all h = tt
    own_vertices (r ∷ rows) all h = (
      other_vertices r rows (All-head HasItsLayer r rows all) (All-tail HasItsLayer r rows all)
          h.0,
      own_vertices rows (All-tail HasItsLayer r rows all) h.1,
    )
