-- The rows that are made are those of the chosen bound.
use Rattle.std.specs.Prelude.{◌≡◌, ◌⊎◌, ℕ, ◌+◌, ◌<◌, ◌≤◌, Bool, true, false, not, ◌||◌, cond}
use Rattle.std.specs.Prelude.{nat_eq}
use Rattle.std.specs.Prelude.{List, [], ◌∷◌, map, option_map, unwrap_or, Option, All}
use Rattle.std.specs.Prelude.{refl}
use Rattle.std.specs.List.{list_any}
use Rattle.std.proofs.Common.{arith, sym, ap, subst, ◌∙◌, inl, inr}
use Rattle.std.proofs.lemmas.Bool.{eqb-true, and_parts, false≢true}
use Rattle.std.proofs.lemmas.List.Elements.{All-weaker, All-map, recursion_from_All}
use Rattle.mc_model.specs.Bits.{Bits}
use Rattle.mc_model.specs.Numbers.{is_member, ListsOnce}
use Rattle.mc_model.specs.Graph.{OpenGraph, size, is_output}
use Rattle.mc_model.specs.Flow.{IsFlow, depth_of}
use Rattle.mc_model.specs.Choice.{IsLeastSet, IsLaterNumber}
use Rattle.mc_model.specs.Depth.{KeepsAbove, IsDepthBound}
use Rattle.mc_model.proofs.DepthBounds.{within_depth}
use Rattle.mc_graph.specs.RowLists.{has_row, HaveOwnVertices}
use Rattle.mc_graph.specs.Flows.{FlowRows, layer_in, sets_in}
use Rattle.mc_cert.specs.BoundRecords.{LayerRow, BoundRow}
use Rattle.mc_cert.specs.BoundRules.{stated_in, keeping_in, is_for, IsAsked}
use Rattle.mc_cert.specs.Bounds.{BoundRows, AreOwn}
use Rattle.mc_cert.proofs.RowLemmas.{found_row, found_none, listed_has_row, count_of_distinct}
use Rattle.mc_least.specs.Bound.{IsChosenBound}
use Rattle.mc_least.specs.Chosen.{IsEarliest, IsChosenBoundOf}
use Rattle.mc_least.specs.Listed.{is_at}
use Rattle.mc_least.specs.Rows.{HoldsLayers, HoldsSets, IsLayerDue, IsSetDue, IsSetRow}
use Rattle.mc_least.proofs.Bounds.{bound_of_least}
use Rattle.mc_model.specs.Signals.{IsRising}

any_weaker : {A : Type 0} (p q : A → Bool) → ((x : A) → p x ≡ true → q x ≡ true) → (xs : List A) →
    list_any p xs ≡ true → list_any q xs ≡ true
any_weaker p q h [] e = absurd (false≢true e)
any_weaker p q h (x ∷ xs) e = by (p x) (q x) (h x) e (any_weaker p q h xs)
  where
    by : (a b : Bool) → (a ≡ true → b ≡ true) →
        (a || list_any p xs ≡ true) → (list_any p xs ≡ true → list_any q xs ≡ true) →
        b || list_any q xs ≡ true
    by a true f e rest = refl
    by false false f e rest = rest e
    by true false f e rest = absurd (false≢true (f refl))

abbrev by_vertex : LayerRow → ℕ
by_vertex r = r.vertex

abbrev stated_at : Option LayerRow → ℕ
stated_at o = unwrap_or (option_map (λ r. r.layer) o) 0

abbrev set_at : Option BoundRow → Bits
set_at o = is_member (unwrap_or (option_map (λ r. r.set) o) [])

-- ---- layers

module _ (g : OpenGraph) (layer : ℕ → ℕ) (d : ℕ) (layers : List LayerRow)
    (h : HoldsLayers g layer (d + 1) 0 layers) where
  IsRow : LayerRow → Type 0
  IsRow r = IsLayerDue g layer r.layer r.vertex

  -- a vertex of layer at least 1 has a row
  has_layer : (v : ℕ) → v < size g → 1 ≤ layer v → layer v ≤ d → has_row by_vertex layers v ≡ true
  has_layer v l one low =
      any_weaker (is_at (λ r. r.layer) by_vertex (layer v) v) (λ r. nat_eq v r.vertex)
      (λ r e. (and_parts (nat_eq (layer v) r.layer) (nat_eq v r.vertex) e).1) layers
      (h.complete (layer v) v (record { vertex = l; positive = one; layer_is = refl })
      (inl (omega arith)))

  -- a vertex with a row has its layer, at least 1
  row_of : (v : ℕ) → has_row by_vertex layers v ≡ true →
      (stated_in layers v ≡ layer v) × (1 ≤ layer v)
  unfolding IsRow
  row_of v e =
      let f = found_row IsRow (λ r. nat_eq v r.vertex) layers
      (recursion_from_All IsRow layers h.each) e in
      let r : LayerRow = f.0 in
      let row : IsRow r = f.2 in
      let at : v ≡ r.vertex = eqb-true v r.vertex f.3 in
      let is : r.layer ≡ layer v = row.layer_is ∙ ap layer (sym at) in
      let some = row.positive in
      (ap stated_at f.1 ∙ is, omega arith)

  pub stated_is : (v : ℕ) → v < size g → layer v ≤ d → stated_in layers v ≡ layer v
  stated_is v l low = by (has_row by_vertex layers v) refl
    where
      by : (b : Bool) → has_row by_vertex layers v ≡ b → stated_in layers v ≡ layer v
      by true e = (row_of v e).0
      by false e = ap stated_at (found_none (λ (r : LayerRow). nat_eq v r.vertex) layers e) ∙ zero
        where
          zero : 0 ≡ layer v
          zero = grind (arith, has_layer v l, e, low)

  pub listed_once : HaveOwnVertices by_vertex layers →
      ((v : ℕ) → v < size g → is_output g v ≡ true → layer v ≡ 0) →
      ((v : ℕ) → v < size g → is_output g v ≡ false → 1 ≤ layer v) →
      ((v : ℕ) → v < size g → layer v ≤ d) →
      ListsOnce (size g) (λ v. not (is_output g v)) (map by_vertex layers)
  unfolding IsRow
  listed_once own outputs inner low = record {
    below = All-map (λ q. q < size g) by_vertex layers
        (All-weaker IsRow (λ r. r.vertex < size g) (λ r row. row.vertex) layers h.each);
    once = λ v l.
        count_of_distinct (map by_vertex layers) v own
        ∙ ap (λ (b : Bool). cond b 1 0)
        (listed_has_row by_vertex layers v ∙ by v l (is_output g v) refl);
  }
    where
      by : (v : ℕ) → v < size g → (b : Bool) → is_output g v ≡ b →
          has_row by_vertex layers v ≡ not (is_output g v)
      by v l false e = has_layer v l (inner v l e) (low v l) ∙ sym (ap not e)
      by v l true e = none (has_row by_vertex layers v) refl ∙ sym (ap not e)
        where
          none : (b : Bool) → has_row by_vertex layers v ≡ b → has_row by_vertex layers v ≡ false
          none false f = f
          none true f =
              let some = (row_of v f).1 in
              let zero = outputs v l e in absurd (omega arith)

-- ---- sets

pub set_is : (g : OpenGraph) (layer : ℕ → ℕ) (k : ℕ) (rows : List BoundRow) →
    HoldsSets g layer k 0 rows → (j u : ℕ) → IsSetDue g layer j u → j < k →
    IsLeastSet IsLaterNumber (size g) (KeepsAbove g layer j u) (keeping_in rows j u)
set_is g layer k rows h j u due low =
    let f = found_row (IsSetRow g layer) (is_for j u) rows
    (recursion_from_All (IsSetRow g layer) rows h.each) (h.complete j u due (inl low)) in
    let r : BoundRow = f.0 in
    let row : IsSetRow g layer r = f.2 in
    let same = and_parts (nat_eq j r.k) (nat_eq u r.vertex) f.3 in
    subst (λ (s : Bits). IsLeastSet IsLaterNumber (size g) (KeepsAbove g layer j u) s)
    (sym (ap set_at f.1))
    (subst (λ (i : ℕ). IsLeastSet IsLaterNumber (size g) (KeepsAbove g layer i u)
    (is_member r.set)) (sym (eqb-true j r.k same.0))
    (subst (λ (v : ℕ). IsLeastSet IsLaterNumber (size g) (KeepsAbove g layer r.k v)
    (is_member r.set)) (sym (eqb-true u r.vertex same.1)) row.least))

-- ---- the bound

-- a bound speaks of the layers of vertices alone
same_bound : (g : OpenGraph) (d : ℕ) (layer stated : ℕ → ℕ) (y : ℕ → ℕ → Bits) →
    ((v : ℕ) → v < size g → stated v ≡ layer v) → IsDepthBound g d layer y →
    IsDepthBound g d stated y
same_bound g d layer stated y same b = record {
  layers = λ v l o.
      let e = same v l in let h = b.layers v l o in let one = h.0 in let most = h.1 in
      (omega arith, omega arith);
  reached = top b.reached;
  holds = λ k u one low l o. b.holds k u one (at k u l low) l o;
  within = λ k u v one low l o i e.
      let h = b.within k u v one (at k u l low) l o i e in
      let high = h.1 in let is = same v i in (h.0, omega arith);
  even = λ k u w one low l o i free outside.
      b.even k u w one (at k u l low) l o i free (before k w i outside);
}
  where
    at : (k u : ℕ) → u < size g → k < stated u → k < layer u
    at k u l low = let e = same u l in omega arith

    before : (k w : ℕ) → w < size g → (is_output g w ≡ true) ⊎ (stated w < k) →
        (is_output g w ≡ true) ⊎ (layer w < k)
    before k w i (inl o) = inl o
    before k w i (inr lt) = let e = same w i in inr (omega arith)

    top : (d ≡ 0) ⊎ ((v : ℕ) × (v < size g) × (is_output g v ≡ false) × (layer v ≡ d)) →
        (d ≡ 0) ⊎ ((v : ℕ) × (v < size g) × (is_output g v ≡ false) × (stated v ≡ d))
    top (inl e) = inl e
    top (inr found) =
        inr (found.0, found.1, found.2, same found.0 found.1 ∙ found.3)

-- the layers and the sets that were made are the chosen bound
pub chosen_rows : (g : OpenGraph) (f : FlowRows) (b : BoundRows) (k : ℕ) → IsEarliest g f →
    b.depth ≡ f.depth → AreOwn b.layers b.rows →
    HoldsLayers g (layer_in f.rows) (f.depth + 1) 0 b.layers → f.depth ≤ k →
    HoldsSets g (layer_in f.rows) k 0 b.rows → IsChosenBoundOf g f b
chosen_rows g f b k earliest depth own layers deep sets =
    let layer = layer_in f.rows in
    let flow : IsFlow g (sets_in f.rows) layer = earliest.flow.flow in
    let reached : depth_of g layer ≡ f.depth = earliest.flow.whole.reached in
    let low : (v : ℕ) → v < size g → layer v ≤ f.depth =
    λ v l. let most = within_depth g layer v l in omega arith in
    let stated : (v : ℕ) → v < size g → stated_in b.layers v ≡ layer v =
    λ v l. stated_is g layer f.depth b.layers layers v l (low v l) in
    let chosen : IsChosenBound g layer (keeping_in b.rows) =
    bound_of_least g (sets_in f.rows) layer (keeping_in b.rows) flow
    (λ j u one above l o.
    set_is g layer k b.rows sets j u
    (record { positive = one; above = above; vertex = l; no_output = o })
    (let most = low u l in omega arith)) in
    let bound : IsDepthBound g b.depth layer (keeping_in b.rows) =
    subst (λ (d : ℕ). IsDepthBound g d layer (keeping_in b.rows)) (reached ∙ sym depth)
    chosen.bound in
    record {
      depth = depth;
      layers = All-weaker (λ r. IsLayerDue g layer r.layer r.vertex)
          (λ r. r.layer ≡ layer r.vertex) (λ r row. row.layer_is) b.layers layers.each;
      stated = stated;
      chosen = chosen;
      holds = record {
        bound = same_bound g b.depth layer (stated_in b.layers) (keeping_in b.rows) stated bound;
        once = listed_once g layer f.depth b.layers layers own.own flow.outputs flow.positive low;
        asked = All-weaker (IsSetRow g layer) (IsAsked g b.layers)
            (λ r row. record {
              positive = row.due.positive;
              above = let e = stated r.vertex row.due.vertex in let high = row.due.above in
                  omega arith;
              no_output = row.due.no_output;
            }) b.rows sets.each;
      };
      vertices = All-weaker (λ r. IsLayerDue g layer r.layer r.vertex) (λ r. r.vertex < size g)
          (λ r row. row.vertex) b.layers layers.each;
      sets = record {
        vertices = All-weaker (IsSetRow g layer) (λ r. r.vertex < size g)
            (λ r row. row.due.vertex) b.rows sets.each;
        members = All-weaker (IsSetRow g layer) (λ r. All (λ j. j < size g) r.set)
            (λ r row. row.members) b.rows sets.each;
      };
      own = own;
      order = record {
        layers = layers.rises;
        rows = sets.rises;
        members = All-weaker (IsSetRow g layer) (λ r. IsRising r.set) (λ r row. row.rising) b.rows
            sets.each;
      };
    }
