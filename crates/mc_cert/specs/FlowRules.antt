-- The rules of the rows of a flow.
use Rattle.std.specs.Prelude.{ℕ, not, ◌&&◌, ◌||◌, nat_eq, nat_lt, List, [], ◌∷◌, ◌++◌, map}
use Rattle.std.specs.Prelude.{max, fold}
use Rattle.std.specs.List.{list_any}
use Rattle.mc_model.specs.Numbers.{numbers_from, is_member}
use Rattle.mc_model.specs.Bits.{Bits}
use Rattle.mc_model.specs.Graph.{OpenGraph, size, is_input, is_output, odd_neighbourhood}
use Rattle.mc_graph.specs.Flows.{FlowLine}
use Rattle.mc_cert.specs.Rules.{Rule, rule}
use Rattle.mc_graph.specs.RowLists.{has_row}

-- whether the vertex has a row of a layer below `k`
abbrev pub has_lower_row : List FlowLine → ℕ → Bits
has_lower_row rows k v = list_any (λ r. nat_eq v r.vertex && nat_lt r.layer k) rows

-- whether the vertex is measured behind those of the layer `k`: an output, or of a lower layer
abbrev pub is_later : OpenGraph → List FlowLine → ℕ → Bits
is_later g rows k v = is_output g v || has_lower_row rows k v

-- whether a vertex is another than that of the row and not later
abbrev pub is_too_early : OpenGraph → List FlowLine → FlowLine → Bits
is_too_early g rows r v = not (nat_eq v r.vertex) && not (is_later g rows r.layer v)

abbrev pub odd_early : OpenGraph → List FlowLine → FlowLine → Bits
odd_early g rows r v =
    odd_neighbourhood g (is_member r.set) v && is_too_early g rows r v

abbrev pub flow_rules : OpenGraph → ℕ → List FlowLine → FlowLine → List Rule
flow_rules g depth rows r =
    rule 1 (is_output g r.vertex)
    ∷ rule 2 (nat_eq r.layer 0 || nat_lt depth r.layer)
    ∷ rule 3 (list_any (is_input g) r.set)
    ∷ rule 4 (is_member r.set r.vertex)
    ∷ rule 5 (not (odd_neighbourhood g (is_member r.set) r.vertex))
    ∷ rule 6 (list_any (is_too_early g rows r) r.set)
    ∷ rule 7 (list_any (odd_early g rows r) (numbers_from 0 (size g)))
    ∷ []

-- whether a vertex is no output and has no row
abbrev pub lacks_row : OpenGraph → List FlowLine → Bits
lacks_row g rows v = not (is_output g v) && not (has_row (λ r. r.vertex) rows v)

abbrev pub greatest_layer : List FlowLine → ℕ
greatest_layer rows = fold max 0 (map (λ r. r.layer) rows)

abbrev pub flow_end_rules : OpenGraph → ℕ → List FlowLine → List Rule
flow_end_rules g depth rows =
    rule 8 (list_any (lacks_row g rows) (numbers_from 0 (size g)))
    ∷ rule 9 (not (nat_eq depth (greatest_layer rows)))
    ∷ []

-- the rows with their rules, and behind them the rules of all rows together
abbrev pub flow_lines : OpenGraph → ℕ → List FlowLine → List (List Rule)
flow_lines g depth rows =
    map (flow_rules g depth rows) rows ++ (flow_end_rules g depth rows ∷ [])
