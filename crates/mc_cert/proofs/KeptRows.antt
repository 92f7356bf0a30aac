-- Rows of a bound as they are kept: entries by key.
use Rattle.std.proofs.Common.{◌≡◌, ℕ, Bool, true, false, cond, ◌&&◌, ◌||◌, List, [], ◌∷◌, ◌++◌}
use Rattle.std.proofs.Common.{map, refl}
use Rattle.std.proofs.Common.{sym, ap, ◌∙◌, true≢false, if◌then◌else◌, subst}
use Rattle.indexmap.specs.IndexMap.{insert_entry}
use Rattle.std.specs.Prelude.{Some, is_some, nat_eq, option_map, unwrap_or, find}
use Rattle.std.specs.Map.{lookup}
use Rattle.std.specs.List.{list_any}
use Rattle.mc_cert.specs.BoundRecords.{LayerRow, BoundRow}
use Rattle.mc_graph.specs.RowLists.{has_row}
use Rattle.mc_cert.specs.declared.rows.Target.{Target}
use Rattle.mc_cert.specs.BoundRules.{stated_in, is_for}
use Rattle.mc_cert.specs.Bounds.{BoundRows, AreOwn}
use Rattle.mc_cert.specs.Kept.{layer_row, set_row}
use Rattle.mc_cert.proofs.OwnBounds.{layer_more, set_more}

module _ {K X R : Type 0} (row : K × X → R) (test : K → Bool) (p : R → Bool)
    (same : (e : K × X) → p (row e) ≡ test e.0) where
  -- an entry is found exactly where a row passes
  pub any_found_entry : (es : List (K × X)) →
      is_some (lookup test es) ≡ list_any p (map row es)
  any_found_entry [] = refl
  any_found_entry (e ∷ es) =
      by (test e.0) (any_found_entry es)
      ∙ ap (λ (b : Bool). b || list_any p (map row es)) (sym (same e))
    where
      by : (b : Bool) → is_some (lookup test es) ≡ list_any p (map row es) →
          is_some (cond b (Some e.1) (lookup test es)) ≡ b || list_any p (map row es)
      by true rest = refl
      by false rest = rest

-- the layer that is kept is the one that is stated
pub kept_layer : (v : ℕ) (es : List (ℕ × ℕ)) →
    stated_in (map layer_row es) v ≡ unwrap_or (lookup (nat_eq v) es) 0
kept_layer v [] = refl
kept_layer v (e ∷ es) = by (nat_eq v e.0) (kept_layer v es)
  where
    by : (b : Bool) → stated_in (map layer_row es) v ≡ unwrap_or (lookup (nat_eq v) es) 0 →
        unwrap_or (option_map (λ r. r.layer) (cond b (Some (layer_row e))
        (find (λ r. nat_eq v r.vertex) (map layer_row es)))) 0
        ≡ unwrap_or (cond b (Some e.1) (lookup (nat_eq v) es)) 0
    by true rest = refl
    by false rest = rest

module _ {K X R : Type 0} (row : K × X → R) (eq : K → K → Bool) (k : K) (x : X) where
  -- an entry with a new key is the last row
  pub added_row : (es : List (K × X)) → is_some (lookup (eq k) es) ≡ false →
      map row (insert_entry eq es k x) ≡ map row es ++ row (k, x) ∷ []
  added_row [] none = refl
  added_row (e ∷ es) none = by (eq k e.0) none (added_row es)
    where
      by : (b : Bool) → is_some (cond b (Some e.1) (lookup (eq k) es)) ≡ false →
          (is_some (lookup (eq k) es) ≡ false →
          map row (insert_entry eq es k x) ≡ map row es ++ row (k, x) ∷ []) →
          map row (if b then (e.0, x) ∷ es else e ∷ insert_entry eq es k x)
          ≡ row e ∷ (map row es ++ row (k, x) ∷ [])
      by true new rest = absurd (true≢false new)
      by false new rest = ap (λ rs. row e ∷ rs) (rest new)

-- a bound as it is seen
abbrev seen : ℕ → List (ℕ × ℕ) → List (Target × List ℕ) → BoundRows
seen d layers sets = record { depth = d; layers = map layer_row layers; rows = map set_row sets }

abbrev with_layers : BoundRows → List LayerRow → BoundRows
with_layers b layers = record b { layers = layers }

abbrev with_rows : BoundRows → List BoundRow → BoundRows
with_rows b rows = record b { rows = rows }

abbrev is_target : Target → Target → Bool
is_target t u = nat_eq t.k u.k && nat_eq t.vertex u.vertex

module _ (d : ℕ) (layers : List (ℕ × ℕ)) (sets : List (Target × List ℕ)) (b : BoundRows)
    (same : seen d layers sets ≡ b) where
  -- the map has a vertex exactly where it has a layer
  pub layer_kept : (v : ℕ) →
      is_some (lookup (nat_eq v) layers) ≡ has_row (λ r. r.vertex) b.layers v
  layer_kept v =
      any_found_entry layer_row (nat_eq v) (λ r. nat_eq v r.vertex) (λ e. refl) layers
      ∙ ap (λ (b : BoundRows). has_row (λ r. r.vertex) b.layers v) same

  -- and a target exactly where there is a set for it
  pub set_kept : (t : Target) →
      is_some (lookup (is_target t) sets) ≡ list_any (is_for t.k t.vertex) b.rows
  set_kept t =
      any_found_entry set_row (is_target t) (is_for t.k t.vertex) (λ e. refl) sets
      ∙ ap (λ (b : BoundRows). list_any (is_for t.k t.vertex) b.rows) same

  -- one more layer
  pub layer_added : (v l : ℕ) → has_row (λ r. r.vertex) b.layers v ≡ false →
      (new : List (ℕ × ℕ)) → new ≡ insert_entry nat_eq layers v l →
      seen d new sets ≡ with_layers b (b.layers ++ record { vertex = v; layer = l } ∷ [])
  layer_added v l none new e =
      ap (λ (rows : List LayerRow). with_layers (seen d layers sets) rows)
      (ap (λ (es : List (ℕ × ℕ)). map layer_row es) e
      ∙ added_row layer_row nat_eq v l layers (layer_kept v ∙ none))
      ∙ ap (λ (b : BoundRows). with_layers b (b.layers ++ record { vertex = v; layer = l } ∷ [])) same

  -- one more set
  pub set_added : (t : Target) (set : List ℕ) → list_any (is_for t.k t.vertex) b.rows ≡ false →
      (new : List (Target × List ℕ)) → new ≡ insert_entry is_target sets t set →
      seen d layers new
      ≡ with_rows b (b.rows ++ record { k = t.k; vertex = t.vertex; set = set } ∷ [])
  set_added t set none new e =
      ap (λ (rows : List BoundRow). with_rows (seen d layers sets) rows)
      (ap (λ (es : List (Target × List ℕ)). map set_row es) e
      ∙ added_row set_row is_target t set sets (set_kept t ∙ none))
      ∙ ap (λ (b : BoundRows). with_rows b (b.rows ++ set_row (t, set) ∷ [])) same

  module _ (own : AreOwn (map layer_row layers) (map set_row sets)) where
    seen_own : AreOwn b.layers b.rows
    seen_own = subst (λ (b : BoundRows). AreOwn b.layers b.rows) same own

    -- and the rows are still of other vertices, or for other layers, each
    pub own_with_layer : (v l : ℕ) → has_row (λ r. r.vertex) b.layers v ≡ false →
        (new : List (ℕ × ℕ)) → new ≡ insert_entry nat_eq layers v l →
        AreOwn (map layer_row new) (map set_row sets)
    own_with_layer v l none new e =
        subst (λ (b : BoundRows). AreOwn b.layers b.rows) (sym (layer_added v l none new e))
        (layer_more b.layers b.rows (record { vertex = v; layer = l }) seen_own none)

    pub own_with_set : (t : Target) (set : List ℕ) →
        list_any (is_for t.k t.vertex) b.rows ≡ false →
        (new : List (Target × List ℕ)) → new ≡ insert_entry is_target sets t set →
        AreOwn (map layer_row layers) (map set_row new)
    own_with_set t set none new e =
        subst (λ (b : BoundRows). AreOwn b.layers b.rows) (sym (set_added t set none new e))
        (set_more b.layers b.rows (set_row (t, set)) seen_own none)
