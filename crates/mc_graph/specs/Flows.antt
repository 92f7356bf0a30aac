-- When the rows of a flow are a flow of a graph, a causal flow, or those that are chosen.
use Rattle.std.specs.Prelude.{◌≡◌, ◌⊎◌, ℕ, ◌<◌, not, List, [], ◌∷◌, map, length, option_map}
use Rattle.std.specs.Prelude.{unwrap_or, slice_index_or, All, ⊤}
use Rattle.mc_model.specs.Numbers.{is_member, ListsOnce}
use Rattle.mc_model.specs.Bits.{Bits}
use Rattle.mc_model.specs.Graph.{OpenGraph, size, is_output}
use Rattle.mc_model.specs.Flow.{IsFlow, depth_of}
use Rattle.mc_model.specs.Choice.{IsChosenFlow, IsChosenCausalFlow}
use Rattle.mc_graph.specs.RowLists.{row_at, AreRowsOf}

-- a vertex, its layer, and the set that corrects it, rising
pub record FlowLine : Type 0 where
  pub vertex : ℕ
  pub layer : ℕ
  pub set : List ℕ

pub record FlowRows : Type 0 where
  pub depth : ℕ
  pub rows : List FlowLine

-- the layer of a vertex, which is 0 where it has no row
abbrev pub layer_in : List FlowLine → ℕ → ℕ
layer_in rows v = unwrap_or (option_map (λ r. r.layer) (row_at (λ r. r.vertex) rows v)) 0

abbrev pub set_in : List FlowLine → ℕ → List ℕ
set_in rows v = unwrap_or (option_map (λ r. r.set) (row_at (λ r. r.vertex) rows v)) []

abbrev pub sets_in : List FlowLine → ℕ → Bits
sets_in rows v = is_member (set_in rows v)

-- the first member of the set of a vertex, which in a causal flow is its next
abbrev pub next_in : List FlowLine → ℕ → ℕ
next_in rows v = slice_index_or (set_in rows v) 0 0

abbrev pub vertices_of : List FlowLine → List ℕ
vertices_of rows = map (λ r. r.vertex) rows

abbrev pub AreFlowLines : OpenGraph → List FlowLine → Type 0
AreFlowLines g rows = AreRowsOf (size g) (λ r. r.vertex) (λ r. r.set) rows

-- the rows have each vertex once that is no output, and the stated depth is theirs
pub record IsWhole (g : OpenGraph) (f : FlowRows) : Type 0 where
  pub once : ListsOnce (size g) (λ v. not (is_output g v)) (vertices_of f.rows)
  pub reached : depth_of g (layer_in f.rows) ≡ f.depth

-- a flow of the graph
pub record IsFlowOf (g : OpenGraph) (f : FlowRows) : Type 0 where
  pub flow : IsFlow g (sets_in f.rows) (layer_in f.rows)
  pub whole : IsWhole g f

-- each set has one member
abbrev pub HasSingles : FlowRows → Type 0
HasSingles f = All (λ r. length r.set ≡ 1) f.rows

-- a causal flow of the graph
pub record IsCausalFlowOf (g : OpenGraph) (f : FlowRows) : Type 0 where
  pub flow : IsFlowOf g f
  pub singles : HasSingles f

-- a row of a smaller layer, or of the same layer and a smaller number
abbrev pub StandsBefore : FlowLine → FlowLine → Type 0
StandsBefore r s = (r.layer < s.layer) ⊎ ((r.layer ≡ s.layer) × (r.vertex < s.vertex))

-- by rising layer, and within a layer by rising number
abbrev pub RowsRise : List FlowLine → Type 0
RowsRise [] = ⊤
RowsRise (r ∷ rows) = All (StandsBefore r) rows × RowsRise rows

-- the chosen flow of the graph
pub record IsChosenFlowOf (g : OpenGraph) (f : FlowRows) : Type 0 where
  pub flow : IsChosenFlow g (sets_in f.rows) (layer_in f.rows)
  pub whole : IsWhole g f
  pub order : RowsRise f.rows

-- the chosen causal flow of the graph
pub record IsChosenCausalFlowOf (g : OpenGraph) (f : FlowRows) : Type 0 where
  pub flow : IsChosenCausalFlow g (next_in f.rows) (layer_in f.rows)
  pub singles : HasSingles f
  pub whole : IsWhole g f
  pub order : RowsRise f.rows
