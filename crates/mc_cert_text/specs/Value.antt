-- The certificate that the rows of a section say.
use Rattle.std.specs.Prelude.{ℕ, List, [], ◌∷◌, map, filter, fold}
use Rattle.mc_lex.specs.declared.kind.Kind.{Kind}
use Rattle.mc_lex.specs.declared.kind.Kind.TheVariants.{Flow, NoFlow, Least}
use Rattle.mc_graph.specs.Flows.{FlowLine, FlowRows}
use Rattle.mc_graph.specs.Refuters.{RefuterLine}
use Rattle.mc_cert.specs.BoundRecords.{LayerRow, BoundRow}
use Rattle.mc_cert.specs.Bounds.{BoundRows}
use Rattle.mc_rows.specs.declared.row.Row.{Row}
use Rattle.mc_cert_text.specs.Certs.{PlainCert, flow, noflow, nocausal, least}
use Rattle.mc_cert_text.specs.Tables.{is_flow_row, is_set_row, is_layer_row}

abbrev pub flow_line : Row → FlowLine
flow_line row = record { vertex = row.name; layer = row.number; set = row.set }

abbrev pub refuter_line : Row → RefuterLine
refuter_line row = record { vertex = row.name; set = row.set }

abbrev pub flow_lines_in : List Row → List FlowLine
flow_lines_in rows = map flow_line (filter (λ row. is_flow_row row.head) rows)

-- the first row says the depth, and behind it stand the rows of vertices
abbrev pub flow_in : List Row → FlowRows
flow_in [] = record { depth = 0; rows = [] }
flow_in (row ∷ rows) = record { depth = row.number; rows = flow_lines_in rows }

abbrev pub refuter_in : List Row → List RefuterLine
refuter_in rows = map refuter_line (filter (λ row. is_set_row row.head) rows)

-- the set of the only row
abbrev pub stuck_in : List Row → List ℕ
stuck_in rows = fold (λ (set : List ℕ) row. row.set) [] rows

abbrev pub layer_line : Row → LayerRow
layer_line row = record { vertex = row.name; layer = row.number }

abbrev pub bound_line : Row → BoundRow
bound_line row = record { k = row.number; vertex = row.name; set = row.set }

abbrev pub layer_lines_in : List Row → List LayerRow
layer_lines_in rows = map layer_line (filter (λ row. is_layer_row row.head) rows)

abbrev pub bound_lines_in : List Row → List BoundRow
bound_lines_in rows = map bound_line (filter (λ row. is_set_row row.head) rows)

-- the first row says the depth, and behind it stand the layers and the sets of vertices
abbrev pub least_in : List Row → BoundRows
least_in [] = record { depth = 0; layers = []; rows = [] }
least_in (row ∷ rows) = record {
  depth = row.number;
  layers = layer_lines_in rows;
  rows = bound_lines_in rows;
}

-- the certificate of a kind
abbrev pub cert_by : Kind → List Row → PlainCert
cert_by Flow rows = flow (flow_in rows)
cert_by NoFlow rows = noflow (refuter_in rows)
cert_by Least rows = least (least_in rows)
cert_by _ rows = nocausal (stuck_in rows)
