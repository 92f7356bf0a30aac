-- A graph has at most one chosen bound, as rows.
use Rattle.std.proofs.Common.{◌≡◌, ◌⊎◌, ℕ, ◌<◌, ◌≤◌}
use Rattle.std.proofs.Common.{Bool, true, false, ◌&&◌, List, []}
use Rattle.std.proofs.Common.{◌∷◌, Option, Some, refl, sym, ap, ap₂, subst, ◌∙◌, inl, inr, arith}
use Rattle.std.specs.Prelude.{nat_eq, not, All, find, option_map, unwrap_or}
use Rattle.std.specs.List.{AllByRecursion, IsDistinct}
use Rattle.std.proofs.lemmas.Bool.{cases_Bool, eqb-true, eq-eqb, and_parts, false≢true}
use Rattle.std.proofs.lemmas.Bool.Decides.{nat_tests}
use Rattle.mc_model.specs.Bits.{Bits}
use Rattle.mc_model.specs.Numbers.{is_member}
use Rattle.mc_model.specs.Signals.{IsRising}
use Rattle.mc_model.specs.Graph.{OpenGraph, size, is_output}
use Rattle.mc_model.specs.Choice.{SameBelow, IsLaterNumber}
use Rattle.mc_model.specs.Depth.{KeepsAbove}
use Rattle.mc_graph.specs.Flows.{FlowRows, IsChosenFlowOf, layer_in, sets_in}
use Rattle.mc_cert.specs.BoundRecords.{LayerRow, BoundRow}
use Rattle.mc_cert.specs.BoundRules.{IsAsked, stated_in, keeping_in, is_for, AreApart}
use Rattle.mc_cert.specs.Bounds.{BoundRows}
use Rattle.mc_least.specs.Listed.{ComesBefore, Rises}
use Rattle.mc_least.specs.Chosen.{IsChosenBoundOf}
use Rattle.mc_top.proofs.OneChoice.{same_layers, least_once, one_at_most, none_where, one_where}
use Rattle.mc_top.proofs.OneChoice.{same_everywhere, member_below, below_or_above}
use Rattle.mc_top.proofs.OrderedRows.{IsIn, IsOrdered, counted_found, found_in, in_all, in_found}
use Rattle.mc_top.proofs.OrderedRows.{same_members, same_rows}

-- ---- rows in order

abbrev Before : {A : Type 0} → (A → ℕ) → (A → ℕ) → A → A → Type 0
Before level vertex r s = ComesBefore (level r) (vertex r) (level s) (vertex s)

ordered : {A : Type 0} (level vertex : A → ℕ) (rows : List A) → Rises level vertex rows →
    IsOrdered (Before level vertex) rows
ordered level vertex [] h = tt
ordered level vertex (r ∷ rows) h = (h.0, ordered level vertex rows h.1)

one_way : (j v k x : ℕ) → ComesBefore j v k x → ComesBefore k x j v → ⊥
one_way j v k x (inl a) (inl b) = omega arith
one_way j v k x (inl a) (inr (b, c)) = omega arith
one_way j v k x (inr (a, c)) (inl b) = omega arith
one_way j v k x (inr (a, c)) (inr (b, d)) = omega arith

-- ---- the set for a layer and a vertex

abbrev set_at : Option BoundRow → List ℕ
set_at o = unwrap_or (option_map (λ r. r.set) o) []

record Found (rows : List BoundRow) (k u : ℕ) : Type 0 where
  row : BoundRow
  found : find (is_for k u) rows ≡ Some row
  listed : IsIn row rows
  layer : k ≡ row.k
  vertex : u ≡ row.vertex

-- a set that holds something has a row
found_for : (rows : List BoundRow) (k u j : ℕ) → keeping_in rows k u j ≡ true → Found rows k u
found_for [] k u j e = absurd (false≢true e)
found_for (r ∷ rows) k u j e = elim (cases_Bool (is_for k u r)) [
  | inl t ↦
      let same = and_parts (nat_eq k r.k) (nat_eq u r.vertex) t in
      record {
        row = r;
        found = rw t refl;
        listed = inl refl;
        layer = eqb-true k r.k same.0;
        vertex = eqb-true u r.vertex same.1;
      }
  | inr t ↦
      let later = found_for rows k u j (rw t at e) in
      record {
        row = later.row;
        found = rw t later.found;
        listed = inr later.listed;
        layer = later.layer;
        vertex = later.vertex;
      }
]

own_pair : (x : BoundRow) → is_for x.k x.vertex x ≡ true
own_pair x = ap₂ (λ (a b : Bool). a && b) (eq-eqb x.k x.k refl) (eq-eqb x.vertex x.vertex refl)

pair_turned : (a b c d : ℕ) → (nat_eq a c && nat_eq b d) ≡ false →
    (nat_eq c a && nat_eq d b) ≡ false
pair_turned a b c d e = grind (arith, nat_tests)

apart_from : (r x : BoundRow) (rows : List BoundRow) →
    AllByRecursion (λ s. is_for r.k r.vertex s ≡ false) rows → IsIn x rows →
    is_for r.k r.vertex x ≡ false
apart_from r x [] all h = absurd h
apart_from r x (s ∷ rows) all (inl e) = ap (is_for r.k r.vertex) e ∙ all.0
apart_from r x (s ∷ rows) all (inr h) = apart_from r x rows all.1 h

-- a row that is in the list is found
found_own : (rows : List BoundRow) (x : BoundRow) → IsIn x rows → AreApart rows →
    find (is_for x.k x.vertex) rows ≡ Some x
unfolding IsDistinct
found_own [] x h apart = absurd h
found_own (r ∷ rows) x (inl e) apart =
    let own : is_for x.k x.vertex r ≡ true =
    ap (is_for x.k x.vertex) (sym e) ∙ own_pair x in
    rw own (ap Some (sym e))
found_own (r ∷ rows) x (inr h) apart =
    let other = pair_turned r.k r.vertex x.k x.vertex (apart_from r x rows apart.0 h) in
    rw other (found_own rows x h apart.1)

same_set_row : (r s : BoundRow) → r.k ≡ s.k → r.vertex ≡ s.vertex → r.set ≡ s.set → r ≡ s
same_set_row r s k v t =
    ap (λ (x : ℕ). record { k = x; vertex = r.vertex; set = r.set }) k
    ∙ ap (λ (x : ℕ). record { k = s.k; vertex = x; set = r.set }) v
    ∙ ap (λ (x : List ℕ). record { k = s.k; vertex = s.vertex; set = x }) t

same_layer_row : (r s : LayerRow) → r.vertex ≡ s.vertex → r.layer ≡ s.layer → r ≡ s
same_layer_row r s v l =
    ap (λ (x : ℕ). record { vertex = x; layer = r.layer }) v
    ∙ ap (λ (x : ℕ). record { vertex = s.vertex; layer = x }) l

-- ---- two chosen bounds

abbrev by_vertex : LayerRow → ℕ
by_vertex r = r.vertex

keeps_too : (g : OpenGraph) (layer layer' : ℕ → ℕ) (k u : ℕ) (s : Bits) →
    ((v : ℕ) → v < size g → layer v ≡ layer' v) → KeepsAbove g layer k u s →
    KeepsAbove g layer' k u s
keeps_too g layer layer' k u s same h = record {
  holds = h.holds;
  within = λ v l e.
      let held = h.within v l e in let low = held.1 in let is = same v l in
      (held.0, omega arith);
  even = λ w l free outside. h.even w l free (before w l outside);
}
  where
    before : (w : ℕ) → w < size g → (is_output g w ≡ true) ⊎ (layer' w < k) →
        (is_output g w ≡ true) ⊎ (layer w < k)
    before w l (inl o) = inl o
    before w l (inr lt) = let is = same w l in inr (omega arith)

module _ (g : OpenGraph) (f f' : FlowRows) (b c : BoundRows) (chosen : IsChosenFlowOf g f)
    (chosen' : IsChosenFlowOf g f') (h : IsChosenBoundOf g f b) (h' : IsChosenBoundOf g f' c) where
  same : (v : ℕ) → v < size g → layer_in f.rows v ≡ layer_in f'.rows v
  same v l =
      same_layers g (sets_in f.rows) (sets_in f'.rows) (layer_in f.rows) (layer_in f'.rows)
      chosen.flow chosen'.flow v l

  pub depth_within : b.depth ≤ c.depth
  depth_within = by h.holds.bound.reached
    where
      by : (b.depth ≡ 0)
          ⊎ ((v : ℕ) × (v < size g) × (is_output g v ≡ false) × (stated_in b.layers v ≡ b.depth)) →
          b.depth ≤ c.depth
      by (inl e) = omega arith
      by (inr top) =
          let l = top.1 in
          let here = h.stated top.0 l in
          let there = h'.stated top.0 l in
          let is = same top.0 l in
          let most = (h'.holds.bound.layers top.0 l top.2).1 in
          let reached = top.3 in
          omega arith

  pub layer_elsewhere : (x : LayerRow) → IsIn x b.layers → IsIn x c.layers
  layer_elsewhere x inside =
      let v = x.vertex in
      let low = in_all (λ (r : LayerRow). r.vertex < size g) x b.layers h.vertices inside in
      let here = h.holds.once.once v low in
      let there = h'.holds.once.once v low in
      let found =
      in_found by_vertex b.layers x inside (one_at_most (not (is_output g v)) _ here) in
      let some = (found_in by_vertex b.layers v x found).2 in
      let inner = none_where (is_output g v) _ here some in
      let other = counted_found by_vertex c.layers v (one_where (is_output g v) _ inner there) in
      let y = other.0 in
      let back = found_in by_vertex c.layers v y other.1 in
      let is = in_all (λ (r : LayerRow). r.layer ≡ layer_in f.rows r.vertex) x b.layers h.layers
      inside in
      let is' = in_all (λ (r : LayerRow). r.layer ≡ layer_in f'.rows r.vertex) y c.layers h'.layers
      back.0 in
      let equal : x ≡ y =
      same_layer_row x y back.1
      (is ∙ same v low ∙ ap (layer_in f'.rows) back.1 ∙ sym is') in
      subst (λ (z : LayerRow). IsIn z c.layers) (sym equal) back.0

  pub set_elsewhere : (x : BoundRow) → IsIn x b.rows → IsIn x c.rows
  set_elsewhere x inside =
      let k = x.k in
      let u = x.vertex in
      let low = in_all (λ (r : BoundRow). r.vertex < size g) x b.rows h.sets.vertices inside in
      let asked = in_all (IsAsked g b.layers) x b.rows h.holds.asked inside in
      let is = same u low in
      let stated = h.stated u low in
      let stated' = h'.stated u low in
      let high = asked.above in
      let above : k < layer_in f.rows u = omega arith in
      let above' : k < layer_in f'.rows u = omega arith in
      let there : k < stated_in c.layers u = omega arith in
      let y = found_for c.rows k u u
      (h'.holds.bound.holds k u asked.positive there low asked.no_output) in
      let least = h.chosen.least k u asked.positive above low asked.no_output in
      let least' = h'.chosen.least k u asked.positive above' low asked.no_output in
      let below : SameBelow (size g) (keeping_in b.rows k u) (keeping_in c.rows k u) =
      least_once IsLaterNumber IsLaterNumber (size g) (KeepsAbove g (layer_in f.rows) k u)
      (KeepsAbove g (layer_in f'.rows) k u) (keeping_in b.rows k u) (keeping_in c.rows k u)
      (λ i j p q. below_or_above i j)
      (keeps_too g (layer_in f'.rows) (layer_in f.rows) k u (keeping_in c.rows k u)
      (λ v l. sym (same v l)) least'.has)
      (keeps_too g (layer_in f.rows) (layer_in f'.rows) k u (keeping_in b.rows k u) same least.has)
      least least' in
      let own : set_at (find (is_for k u) b.rows) ≡ x.set =
      ap set_at (found_own b.rows x inside h.own.apart) in
      let other : set_at (find (is_for k u) c.rows) ≡ y.row.set = ap set_at y.found in
      let within = member_below (size g) x.set
      (in_all (λ (r : BoundRow). All (λ j. j < size g) r.set) x b.rows h.sets.members inside) in
      let within' = member_below (size g) y.row.set
      (in_all (λ (r : BoundRow). All (λ j. j < size g) r.set) y.row c.rows h'.sets.members
      y.listed) in
      let agree : SameBelow (size g) (is_member x.set) (is_member y.row.set) =
      λ j l.
      ap (λ (s : List ℕ). is_member s j) (sym own) ∙ below j l
      ∙ ap (λ (s : List ℕ). is_member s j) other in
      let sets : x.set ≡ y.row.set =
      same_members x.set y.row.set
      (in_all (λ (r : BoundRow). IsRising r.set) x b.rows h.order.members inside)
      (in_all (λ (r : BoundRow). IsRising r.set) y.row c.rows h'.order.members y.listed)
      (same_everywhere (size g) (is_member x.set) (is_member y.row.set) within within' agree) in
      let equal : x ≡ y.row = same_set_row x y.row y.layer y.vertex sets in
      subst (λ (z : BoundRow). IsIn z c.rows) (sym equal) y.listed

-- the chosen bound is one, its rows too
pub one_chosen_bound : (g : OpenGraph) (f f' : FlowRows) (b c : BoundRows) →
    IsChosenFlowOf g f → IsChosenFlowOf g f' → IsChosenBoundOf g f b → IsChosenBoundOf g f' c →
    b ≡ c
one_chosen_bound g f f' b c chosen chosen' h h' =
    let layers : b.layers ≡ c.layers =
    same_rows (Before (λ r. r.layer) by_vertex) b.layers c.layers
    (λ r s. one_way r.layer r.vertex s.layer s.vertex)
    (ordered (λ r. r.layer) by_vertex b.layers h.order.layers)
    (ordered (λ r. r.layer) by_vertex c.layers h'.order.layers)
    (layer_elsewhere g f f' b c chosen chosen' h h')
    (layer_elsewhere g f' f c b chosen' chosen h' h) in
    let rows : b.rows ≡ c.rows =
    same_rows (Before (λ (r : BoundRow). r.k) (λ r. r.vertex)) b.rows c.rows
    (λ r s. one_way r.k r.vertex s.k s.vertex)
    (ordered (λ (r : BoundRow). r.k) (λ r. r.vertex) b.rows h.order.rows)
    (ordered (λ (r : BoundRow). r.k) (λ r. r.vertex) c.rows h'.order.rows)
    (set_elsewhere g f f' b c chosen chosen' h h')
    (set_elsewhere g f' f c b chosen' chosen h' h) in
    let low = depth_within g f f' b c chosen chosen' h h' in
    let high = depth_within g f' f c b chosen' chosen h' h in
    let depth : b.depth ≡ c.depth = omega arith in
    ap (λ (x : ℕ). record { depth = x; layers = b.layers; rows = b.rows }) depth
    ∙ ap (λ (x : List LayerRow). record { depth = c.depth; layers = x; rows = b.rows }) layers
    ∙ ap (λ (x : List BoundRow). record { depth = c.depth; layers = c.layers; rows = x }) rows
