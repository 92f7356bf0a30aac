-- What is kept of the rows of a certificate while they are read.
use Rattle.std.specs.Prelude.{◌≡◌, Bool, true, false, List, [], ◌∷◌, ◌++◌, if◌then◌else◌}
use Rattle.mc_graph.specs.Flows.{FlowRows}
use Rattle.mc_graph.specs.Refuters.{RefuterLine}
use Rattle.mc_cert.specs.Bounds.{BoundRows}
use Rattle.mc_rows.specs.declared.row.Row.{Row}
use Rattle.mc_cert_text.specs.Tables.{is_flow_row, is_set_row, is_layer_row}
use Rattle.mc_cert_text.specs.Value.{flow_line, refuter_line, layer_line, bound_line}

-- a flow with one more row behind the first
abbrev pub flow_with : FlowRows → Row → FlowRows
flow_with f row = record f {
  rows = f.rows ++ (if is_flow_row row.head then flow_line row ∷ [] else []);
}

abbrev pub refuter_with : List RefuterLine → Row → List RefuterLine
refuter_with rows row =
    rows ++ (if is_set_row row.head then refuter_line row ∷ [] else [])

-- a bound with one more row behind the first
abbrev pub bound_with : BoundRows → Row → BoundRows
bound_with b row = record b {
  layers = b.layers ++ (if is_layer_row row.head then layer_line row ∷ [] else []);
  rows = b.rows ++ (if is_set_row row.head then bound_line row ∷ [] else []);
}

-- whether there is a row
abbrev pub is_begun : List Row → Bool
is_begun [] = false
is_begun (row ∷ rows) = true

-- whether there is a row, and the value that the rows say
pub record IsBegun {A : Type 0} (begun : Bool) (value said : A) (rows : List Row) : Type 0 where
  pub begun_is : begun ≡ is_begun rows
  pub value_is : value ≡ said
