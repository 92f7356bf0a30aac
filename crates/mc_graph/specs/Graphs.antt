-- What every open graph keeps, and how it lies in rows of neighbours.
use Rattle.std.specs.Prelude.{◌≡◌, ℕ, ◌*◌, ◌<◌, List, [], map, length, IsTrue, Some}
use Rattle.std.specs.Prelude.{slice_index_or}
use Rattle.mc_model.specs.Names.{Name}
use Rattle.mc_model.specs.Numbers.{is_member, pairs_below}
use Rattle.mc_model.specs.Steps.{is_permitted}
use Rattle.mc_model.specs.Graph as plain
use Rattle.mc_model.specs.Graph.{OpenGraph, Edge, edge, size, IsOpenGraph, base_angle}
use Rattle.mc_graph.specs.declared.fixed.Fixed.{Fixed}
use Rattle.mc_graph.specs.declared.label.Label.{Label}
use Rattle.mc_graph.specs.Neighbours.{neighbours}

-- an open graph whose angles are less than a turn, in steps of which `half` make half a turn
pub record IsGraph (half : ℕ) (g : OpenGraph) : Type 0 where
  pub open_graph : IsOpenGraph g
  pub angles : (v a : ℕ) → base_angle g v ≡ Some a → a < 2 * half
  pub permitted : IsTrue (is_permitted half)

abbrev pub plain_fixed : Fixed → plain.Fixed
plain_fixed f = record { x = f.x; z = f.z }

-- the edges that rows of neighbours give, for so many vertices
abbrev pub edges_of : List (List ℕ) → ℕ → List Edge
edges_of rows n = pairs_below edge (λ v w. is_member (slice_index_or rows v []) w) n n

-- an open graph by its rows
abbrev pub graph_by : {half : ℕ} → List Name → ℕ → List ℕ → List (List ℕ) → List (Label half) →
    OpenGraph
graph_by names inputs outputs rows labels = record {
  names = names;
  inputs = inputs;
  outputs = outputs;
  edges = edges_of rows (length names);
  angles = map (λ l. l.angle) labels;
  fixed = map (λ l. plain_fixed l.fixed) labels;
}

-- the rows are those of the neighbours
pub record IsStored (half : ℕ) (g : OpenGraph) (rows : List (List ℕ)) : Type 0 where
  pub graph : IsGraph half g
  pub long : length rows ≡ size g
  pub each : (v : ℕ) → v < size g → slice_index_or rows v [] ≡ neighbours g v
