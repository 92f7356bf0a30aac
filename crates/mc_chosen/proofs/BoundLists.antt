-- The rows of the bound that is chosen for a flow: the flow's layers, and the sets that are least.
use Rattle.std.proofs.Common.{◌≡◌, ℕ, ◌+◌, ◌<◌, Bool, false, ◌&&◌}
use Rattle.std.proofs.Common.{refl, sym, ap, ◌∙◌, arith, inl, inr}
use Rattle.std.proofs.lemmas.Bool.{cases_eq, cases_lt, lt-ltb}
use Rattle.std.proofs.lemmas.List.Elements.{All-weaker}
use Rattle.mc_model.specs.Bits.{Bits}
use Rattle.mc_model.specs.Choice.{SameBelow}
use Rattle.mc_model.specs.Depth.{KeepsAbove}
use Rattle.mc_model.specs.Graph.{OpenGraph, is_output, size}
use Rattle.mc_model.specs.Numbers.{is_member, numbers_where}
use Rattle.mc_graph.specs.Flows.{FlowRows, layer_in, sets_in}
use Rattle.mc_graph.proofs.ListedNumbers.{member-where, numbers_where-below, numbers_where-rise}
use Rattle.mc_cert.specs.BoundRecords.{LayerRow, BoundRow}
use Rattle.mc_cert.specs.Bounds.{BoundRows, AreOwn}
use Rattle.mc_least.specs.Bound.{IsChosenBound}
use Rattle.mc_least.specs.Chosen.{IsChosenBoundOf, IsEarliest}
use Rattle.mc_least.specs.Laws.{ChosenBoundsExist}
use Rattle.mc_least.specs.Rows.{IsLayerDue, IsSetDue, IsSetRow}
use Rattle.mc_least.proofs.Bounds.{keeps_same}
use Rattle.mc_least.proofs.ChosenRows.{chosen_rows}
use Rattle.mc_chosen.specs.Laws.{HasChosenBound}
use Rattle.mc_chosen.proofs.LeastSets.{Decided, bits_decided, both_decided, least_too}
use Rattle.mc_chosen.proofs.ListedRows.{AreListed, all_listed, own_vertices, rows_apart}

-- ---- what is due

decided_by : {P Q : Type 0} → (P → Q) → (Q → P) → Decided P → Decided Q
decided_by to from (inl p) = inl (to p)
decided_by to from (inr not_so) = inr (λ q. not_so (from q))

below_decided : (j k : ℕ) → Decided (j < k)
below_decided j k = elim (cases_lt j k) [
  | inl lt ↦ inl lt
  | inr ge ↦ inr (λ lt. absurd (omega arith))
]

layer_decided : (g : OpenGraph) (layer : ℕ → ℕ) (j v : ℕ) → Decided (IsLayerDue g layer j v)
layer_decided g layer j v =
    decided_by
    (λ (h : (v < size g) × ((0 < j) × (j ≡ layer v))).
    record { vertex = h.0; positive = let some = h.1.0 in omega arith; layer_is = h.1.1 })
    (λ due. (due.vertex, (let some = due.positive in omega arith, due.layer_is)))
    (both_decided (below_decided v (size g))
    (both_decided (below_decided 0 j) (cases_eq j (layer v))))

set_decided : (g : OpenGraph) (layer : ℕ → ℕ) (j u : ℕ) → Decided (IsSetDue g layer j u)
set_decided g layer j u =
    decided_by
    (λ (h : (0 < j) × ((j < layer u) × ((u < size g) × (is_output g u ≡ false)))). record {
      positive = let some = h.0 in omega arith;
      above = h.1.0;
      vertex = h.1.1.0;
      no_output = h.1.1.1;
    })
    (λ due.
    (let some = due.positive in omega arith, (due.above, (due.vertex, due.no_output))))
    (both_decided (below_decided 0 j)
    (both_decided (below_decided j (layer u))
    (both_decided (below_decided u (size g)) (bits_decided (is_output g u) false))))

-- ---- sets with the same numbers

listed_below : (p : Bits) (n : ℕ) → SameBelow n p (is_member (numbers_where p n))
listed_below p n k l =
    sym (member-where p n k ∙ ap (λ (b : Bool). b && p k) (lt-ltb k n l))

-- ---- the rows

abbrev by_layer : LayerRow → ℕ
by_layer r = r.layer

abbrev by_vertex : LayerRow → ℕ
by_vertex r = r.vertex

abbrev layer_row : ℕ → ℕ → LayerRow
layer_row j v = record { vertex = v; layer = j }

abbrev by_k : BoundRow → ℕ
by_k r = r.k

abbrev by_number : BoundRow → ℕ
by_number r = r.vertex

module _ (g : OpenGraph) (f : FlowRows) (earliest : IsEarliest g f) where
  abbrev layer : ℕ → ℕ
  layer = layer_in f.rows

  abbrev IsLayerRow : LayerRow → Type 0
  IsLayerRow r = IsLayerDue g layer r.layer r.vertex

  layers : AreListed by_layer by_vertex (IsLayerDue g layer) IsLayerRow (f.depth + 1) 0
  layers =
      all_listed by_layer by_vertex (IsLayerDue g layer) IsLayerRow layer_row (λ j v. refl)
      (λ j v. refl) (λ j v due. due) (layer_decided g layer) (size g)
      (λ j v due. (due.positive, due.vertex)) f.depth

  module _ (y : ℕ → ℕ → Bits) (bound : IsChosenBound g layer y) where
    abbrev set_row : ℕ → ℕ → BoundRow
    set_row j u = record { k = j; vertex = u; set = numbers_where (y j u) (size g) }

    set_made : (j u : ℕ) → IsSetDue g layer j u → IsSetRow g layer (set_row j u)
    set_made j u due =
        let listed : Bits = is_member (numbers_where (y j u) (size g)) in
        let same : SameBelow (size g) (y j u) listed = listed_below (y j u) (size g) in
        record {
          due = due;
          least = least_too (size g) (KeepsAbove g layer j u) (y j u) listed same
              (keeps_same g layer j u due.vertex (y j u) listed same)
              (bound.least j u due.positive due.above due.vertex due.no_output);
          members = numbers_where-below (y j u) (size g);
          rising = numbers_where-rise (y j u) (size g);
        }

    sets : AreListed by_k by_number (IsSetDue g layer) (IsSetRow g layer) (f.depth + 1) 0
    sets =
        all_listed by_k by_number (IsSetDue g layer) (IsSetRow g layer) set_row (λ j u. refl)
        (λ j u. refl) set_made (set_decided g layer) (size g)
        (λ j u due. (due.positive, due.vertex)) f.depth

    abbrev bound_rows : BoundRows
    bound_rows = record { depth = f.depth; layers = layers.rows; rows = sets.rows }

    own_rows : AreOwn layers.rows sets.rows
    own_rows = record {
      own = own_vertices by_layer by_vertex layer layers.rows
          (All-weaker IsLayerRow (λ r. r.layer ≡ layer r.vertex) (λ r due. due.layer_is)
          layers.rows layers.listed.each) layers.listed.rises;
      apart = rows_apart by_k by_number sets.rows sets.listed.rises;
    }

    rows_chosen : IsChosenBoundOf g f bound_rows
    rows_chosen =
        chosen_rows g f bound_rows (f.depth + 1) earliest refl own_rows layers.listed
        (omega arith) sets.listed

pub has_bound : (g : OpenGraph) (f : FlowRows) → IsEarliest g f → ChosenBoundsExist →
    HasChosenBound g f
has_bound g f earliest exist =
    let found =
    exist g (sets_in f.rows) (layer_in f.rows) earliest.flow.flow earliest.least in
    record {
      rows = bound_rows g f earliest found.0 found.1;
      chosen = rows_chosen g f earliest found.0 found.1;
    }
