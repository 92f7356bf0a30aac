-- The rules of the rows of a bound of depth.
use Rattle.std.specs.Prelude.{◌≡◌, ℕ, ◌-◌, ◌<◌, ◌≤◌, Bool, false, not, ◌&&◌, ◌||◌, nat_eq, nat_lt}
use Rattle.std.specs.Prelude.{nat_le, List, [], ◌∷◌, ◌++◌, map, find, option_map, unwrap_or, All}
use Rattle.std.specs.List.{list_any, IsDistinct}
use Rattle.mc_model.specs.Numbers.{numbers_from, is_member, ListsOnce}
use Rattle.mc_model.specs.Bits.{Bits}
use Rattle.mc_model.specs.Graph.{OpenGraph, size, is_input, is_output, odd_neighbourhood}
use Rattle.mc_model.specs.Depth.{IsDepthBound}
use Rattle.mc_cert.specs.BoundRecords.{LayerRow, BoundRow}
use Rattle.mc_cert.specs.Rules.{Rule, rule, before_first}
use Rattle.mc_graph.specs.RowLists.{row_at, has_row, AreRowsOf}

abbrev pub stated_in : List LayerRow → ℕ → ℕ
stated_in layers v = unwrap_or (option_map (λ r. r.layer) (row_at (λ r. r.vertex) layers v)) 0

-- whether a row is of this layer and this vertex
abbrev pub is_for : ℕ → ℕ → BoundRow → Bool
is_for k u r = nat_eq k r.k && nat_eq u r.vertex

abbrev pub keeping_in : List BoundRow → ℕ → ℕ → Bits
keeping_in rows k u =
    is_member (unwrap_or (option_map (λ r. r.set) (find (is_for k u) rows)) [])

abbrev pub AreBoundRows : OpenGraph → List BoundRow → Type 0
AreBoundRows g rows = AreRowsOf (size g) (λ r. r.vertex) (λ r. r.set) rows

abbrev pub layer_rules : OpenGraph → ℕ → LayerRow → List Rule
layer_rules g depth r =
    rule 1 (is_output g r.vertex)
    ∷ rule 2 (nat_eq r.layer 0 || nat_lt depth r.layer)
    ∷ []

-- whether a vertex is no output and has no layer
abbrev pub lacks_layer : OpenGraph → List LayerRow → Bits
lacks_layer g layers v = not (is_output g v) && not (has_row (λ r. r.vertex) layers v)

abbrev pub has_layer : List LayerRow → ℕ → Bool
has_layer layers d = list_any (λ r. nat_eq d r.layer) layers

-- the rules of all layers together
abbrev pub all_layers_rules : OpenGraph → ℕ → List LayerRow → List Rule
all_layers_rules g depth layers =
    rule 3 (list_any (lacks_layer g layers) (numbers_from 0 (size g)))
    ∷ rule 4 (not (nat_eq depth 0 || has_layer layers depth))
    ∷ []

-- whether a vertex is an output or of a layer below `k`
abbrev pub is_behind : OpenGraph → List LayerRow → ℕ → Bits
is_behind g layers k v = is_output g v || nat_lt (stated_in layers v) k

abbrev pub odd_behind : OpenGraph → List LayerRow → ℕ → List ℕ → Bits
odd_behind g layers k set w =
    not (is_input g w) && is_behind g layers k w && odd_neighbourhood g (is_member set) w

abbrev pub keeping_rules : OpenGraph → ℕ → List LayerRow → BoundRow → List Rule
keeping_rules g depth layers r =
    rule 5 (nat_eq r.k 0 || nat_le depth r.k)
    ∷ rule 6 (is_output g r.vertex || nat_le (stated_in layers r.vertex) r.k)
    ∷ rule 7 (not (is_member r.set r.vertex))
    ∷ rule 8 (list_any (is_behind g layers r.k) r.set)
    ∷ rule 9 (list_any (odd_behind g layers r.k r.set) (numbers_from 0 (size g)))
    ∷ []

-- whether a vertex has a layer above `k` and no row for it
abbrev pub lacks_set : List LayerRow → List BoundRow → ℕ → Bits
lacks_set layers rows k u = nat_lt k (stated_in layers u) && not (list_any (is_for k u) rows)

abbrev pub lacks_sets : OpenGraph → List LayerRow → List BoundRow → Bits
lacks_sets g layers rows k = list_any (lacks_set layers rows k) (numbers_from 0 (size g))

abbrev pub bound_end_rules : OpenGraph → ℕ → List LayerRow → List BoundRow → List Rule
bound_end_rules g depth layers rows =
    rule 10 (list_any (lacks_sets g layers rows) (numbers_from 1 (depth - 1))) ∷ []

abbrev pub keeping_lines : OpenGraph → ℕ → List LayerRow → List BoundRow → List (List Rule)
keeping_lines g depth layers rows =
    map (keeping_rules g depth layers) rows ++ (bound_end_rules g depth layers rows ∷ [])

-- the layers, behind them the rules of all layers together with those of the next row, and behind
-- the last row those of all rows together
abbrev pub bound_lines : OpenGraph → ℕ → List LayerRow → List BoundRow → List (List Rule)
bound_lines g depth layers rows =
    map (layer_rules g depth) layers
    ++ before_first (all_layers_rules g depth layers) (keeping_lines g depth layers rows)

-- the row is for a vertex of a layer above its `k`
pub record IsAsked (g : OpenGraph) (layers : List LayerRow) (r : BoundRow) : Type 0 where
  pub positive : 1 ≤ r.k
  pub above : r.k < stated_in layers r.vertex
  pub no_output : is_output g r.vertex ≡ false

-- the rows are a bound: a layer for each vertex that is no output, and the sets that are asked
pub record IsBoundOf (g : OpenGraph) (d : ℕ) (layers : List LayerRow) (rows : List BoundRow) :
    Type 0 where
  pub bound : IsDepthBound g d (stated_in layers) (keeping_in rows)
  pub once : ListsOnce (size g) (λ v. not (is_output g v)) (map (λ r. r.vertex) layers)
  pub asked : All (IsAsked g layers) rows

-- no two rows are for the same layer and vertex
abbrev pub AreApart : List BoundRow → Type 0
AreApart rows = IsDistinct (λ r s. is_for r.k r.vertex s) rows
