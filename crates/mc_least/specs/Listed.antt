-- Rows for a layer and a vertex each, listed by rising layer and within a layer by rising number.
use Rattle.std.specs.Prelude.{◌≡◌, ◌⊎◌, ℕ, ◌<◌, Bool, true, ◌&&◌, nat_eq, List, [], ◌∷◌, All, ⊤}
use Rattle.std.specs.List.{list_any}

-- the layer `j` and the vertex `v` come before the layer `k` and the vertex `x`
abbrev pub ComesBefore : ℕ → ℕ → ℕ → ℕ → Type 0
ComesBefore j v k x = (j < k) ⊎ ((j ≡ k) × (v < x))

abbrev pub Rises : {A : Type 0} → (A → ℕ) → (A → ℕ) → List A → Type 0
Rises level vertex [] = ⊤
Rises level vertex (r ∷ rows) =
    All (λ s. ComesBefore (level r) (vertex r) (level s) (vertex s)) rows × Rises level vertex rows

abbrev pub is_at : {A : Type 0} → (A → ℕ) → (A → ℕ) → ℕ → ℕ → A → Bool
is_at level vertex j v r = nat_eq j (level r) && nat_eq v (vertex r)

-- these rows, all with the property, have each due layer and vertex before the layer `k` and the
-- vertex `x`, in order
pub record Lists {A : Type 0} (level vertex : A → ℕ) (IsDue : ℕ → ℕ → Type 0) (P : A → Type 0)
    (k x : ℕ) (rows : List A) : Type 0 where
  pub each : All P rows
  pub before : All (λ r. ComesBefore (level r) (vertex r) k x) rows
  pub complete : (j v : ℕ) → IsDue j v → ComesBefore j v k x →
      list_any (is_at level vertex j v) rows ≡ true
  pub rises : Rises level vertex rows
