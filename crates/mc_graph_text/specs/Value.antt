-- The graph that lines spell, by filters and maps over them.
use Rattle.std.specs.Prelude.{ℕ, List, [], ◌∷◌, ◌++◌, map, length, filter_map, find, Bool, ◌&&◌}
use Rattle.std.specs.Prelude.{◌||◌, if◌then◌else◌, Option, None, Some, option_to_list}
use Rattle.std.specs.List.{list_any}
use Rattle.std.specs.Option.{option_map}
use Rattle.mc_angle.specs.Angle.{angle_of}
use Rattle.mc_model.specs.Names.{name_eq, is_held}
use Rattle.mc_model.specs.Numbers.{pairs_below}
use Rattle.mc_model.specs.Graph.{OpenGraph, Fixed, edge}
use Rattle.mc_text.specs.declared.head.Head.{Head}
use Rattle.mc_text.specs.Heads.{head_of}
use Rattle.mc_text.specs.Judged.{Words, Lines}
use Rattle.mc_text.specs.Rules.{number_in}
use Rattle.mc_text.specs.Lists.{names_at}
use Rattle.mc_write.specs.Named.{name_at}
use Rattle.mc_graph_text.specs.Roles.{is_defining, is_input, is_joining, is_measuring, is_output}
use Rattle.mc_graph_text.specs.Roles.{is_fixing_x, is_fixing_z}

-- the two words of a line: the ends of an edge, or a vertex and its angle
abbrev pub Pair : Type 0
Pair = List ℕ × List ℕ

-- those of a line whose record word passes the test
abbrev pub pair_in : (Option Head → Bool) → Words → Option Pair
pair_in test (h ∷ a ∷ b ∷ words) = if test (head_of h) then Some (a, b) else None
pair_in test _ = None

-- those of the lines before and of the words of a line
abbrev pub pairs_at : (Option Head → Bool) → Lines → Words → List Pair
pairs_at test before here =
    filter_map (pair_in test) before ++ option_to_list (pair_in test here)

-- the names of the vertices and of the inputs, the ends of the edges, the vertices with their
-- angles, the names of the outputs, and the names of the vertices with a fixed `X` and a fixed `Z`
pub record Spelled : Type 0 where
  pub names : List (List ℕ)
  pub inputs : List (List ℕ)
  pub edges : List Pair
  pub angles : List Pair
  pub outputs : List (List ℕ)
  pub xs : List (List ℕ)
  pub zs : List (List ℕ)

abbrev pub spelled_at : Lines → Words → Spelled
spelled_at before here = record {
  names = names_at is_defining before here;
  inputs = names_at is_input before here;
  edges = pairs_at is_joining before here;
  angles = pairs_at is_measuring before here;
  outputs = names_at is_output before here;
  xs = names_at is_fixing_x before here;
  zs = names_at is_fixing_z before here;
}

-- whether two names are the ends of an edge, in whatever order, and of one of the edges
abbrev pub is_edge : List ℕ → List ℕ → Pair → Bool
is_edge a b e = (name_eq a e.0 && name_eq b e.1) || (name_eq a e.1 && name_eq b e.0)

abbrev pub has_edge : List Pair → List ℕ → List ℕ → Bool
has_edge edges a b = list_any (is_edge a b) edges

-- the angle of a vertex, where there is one, in steps of which `half` make half a turn
abbrev pub angle_by : ℕ → List Pair → List ℕ → Option ℕ
angle_by half angles name =
    option_map (λ (p : Pair). angle_of half p.1) (find (λ (p : Pair). name_eq name p.0) angles)

abbrev pub fixed_by : List (List ℕ) → List (List ℕ) → List ℕ → Fixed
fixed_by xs zs name = record { x = is_held xs name; z = is_held zs name }

-- the graph: vertices have the numbers of their names, and edges the lower number first
abbrev pub graph_by : ℕ → Spelled → OpenGraph
graph_by half s =
    let n = length s.names in
    record {
      names = s.names;
      inputs = length s.inputs;
      outputs = map (number_in s.names) s.outputs;
      edges = pairs_below edge
          (λ v w. has_edge s.edges (name_at s.names v) (name_at s.names w)) n n;
      angles = map (angle_by half s.angles) s.names;
      fixed = map (fixed_by s.xs s.zs) s.names;
    }

abbrev pub graph_in : ℕ → Lines → OpenGraph
graph_in half lines = graph_by half (spelled_at lines [])
