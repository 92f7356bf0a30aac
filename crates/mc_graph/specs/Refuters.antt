-- When the rows of a refuter refute a graph, and are those that are chosen.
use Rattle.std.specs.Prelude.{ℕ, List, [], option_map, unwrap_or, map}
use Rattle.mc_model.specs.Numbers.{is_member}
use Rattle.mc_model.specs.Signals.{IsRising}
use Rattle.mc_model.specs.Bits.{Bits}
use Rattle.mc_model.specs.Graph.{OpenGraph, size}
use Rattle.mc_model.specs.Flow.{IsRefuter}
use Rattle.mc_model.specs.Choice.{IsChosenRefuter}
use Rattle.mc_graph.specs.RowLists.{row_at, has_row, AreRowsOf}

-- a vertex, and the set that keeps it from being corrected, rising
pub record RefuterLine : Type 0 where
  pub vertex : ℕ
  pub set : List ℕ

-- the vertices that have a row
abbrev pub refuted_in : List RefuterLine → Bits
refuted_in rows = has_row (λ r. r.vertex) rows

abbrev pub refuting_in : List RefuterLine → ℕ → Bits
refuting_in rows v =
    is_member (unwrap_or (option_map (λ r. r.set) (row_at (λ r. r.vertex) rows v)) [])

abbrev pub AreRefuterLines : OpenGraph → List RefuterLine → Type 0
AreRefuterLines g rows = AreRowsOf (size g) (λ r. r.vertex) (λ r. r.set) rows

-- a refuter of the graph
abbrev pub IsRefuterOf : OpenGraph → List RefuterLine → Type 0
IsRefuterOf g rows = IsRefuter g (refuted_in rows) (refuting_in rows)

-- the chosen refuter of the graph, its rows by rising number
pub record IsChosenRefuterOf (g : OpenGraph) (rows : List RefuterLine) : Type 0 where
  pub refuter : IsChosenRefuter g (refuted_in rows) (refuting_in rows)
  pub lines : AreRefuterLines g rows
  pub order : IsRising (map (λ r. r.vertex) rows)
