-- What a reader keeps of a graph's lines, and what a word does to it.
use Rattle.std.specs.Prelude.{◌≡◌, ℕ, ◌+◌, List, [], ◌∷◌, ◌++◌, Bool, true, false, not, ◌==◌}
use Rattle.std.specs.Prelude.{map, length, if◌then◌else◌, Option, None, Some}
use Rattle.std.specs.List.{list_all, IsDistinct}
use Rattle.mc_angle.specs.Angle.{angle_of}
use Rattle.mc_model.specs.Names.{AreNames, name_eq, is_held, place_of}
use Rattle.mc_model.specs.Graph.{OpenGraph, fixed_at}
use Rattle.mc_text.specs.declared.head.Head.{Head}
use Rattle.mc_text.specs.declared.head.Head.TheVariants.{In, N, E, M, X, Z, Out, End}
use Rattle.mc_text.specs.declared.point.Point.{Point}
use Rattle.mc_text.specs.Heads.{head_of, head_in}
use Rattle.mc_text.specs.Points.{last_head}
use Rattle.mc_text.specs.Judged.{Words, Lines}
use Rattle.mc_text.specs.Rules.{number_in, AreNumbers}
use Rattle.mc_text.specs.Lists.{names_at, added}
use Rattle.mc_graph.specs.Building.{with_vertex, with_edge, with_angle, with_fixed}
use Rattle.mc_graph.specs.Rules.{angle_rule}
use Rattle.mc_graph_text.specs.declared.reader.Reader.{Reader}
use Rattle.mc_graph_text.specs.Roles.{may_follow, role_of, is_input, is_joining, is_measuring}
use Rattle.mc_graph_text.specs.Roles.{is_output, is_fixing_x, is_fixing_z}
use Rattle.mc_graph_text.specs.Value.{Pair, Spelled, spelled_at, graph_by}
use Rattle.mc_graph_text.specs.Judge.{angled, first_in, is_settled, judge_by}

-- the graph so far: without inputs and outputs
abbrev pub graph_so_far : ℕ → Spelled → OpenGraph
graph_so_far half s = record (graph_by half s) { inputs = 0; outputs = [] }

-- no name of a list has an angle
abbrev pub is_still : Spelled → List ℕ → Bool
is_still s name = not (is_held (angled s) name)

-- the names of all lines are those of vertices; outputs are listed once and have no angle, and
-- corrections are of vertices without one
pub record IsSound (s : Spelled) : Type 0 where
  pub ends : list_all (is_held s.names) (map (λ (e : Pair). e.0) s.edges) ≡ true
  pub other_ends : list_all (is_held s.names) (map (λ (e : Pair). e.1) s.edges) ≡ true
  pub angled_held : list_all (is_held s.names) (angled s) ≡ true
  pub xs_held : list_all (is_held s.names) s.xs ≡ true
  pub zs_held : list_all (is_held s.names) s.zs ≡ true
  pub outputs : IsDistinct name_eq s.outputs
  pub outputs_still : list_all (is_still s) s.outputs ≡ true
  pub xs_still : list_all (is_still s) s.xs ≡ true
  pub zs_still : list_all (is_still s) s.zs ≡ true

-- the line may stand behind one with this record word
abbrev pub opens : Bool → Option Head → Words → Bool
opens fixes last [] = true
opens fixes last (h ∷ words) = may_follow fixes last (head_of h)

-- a list of outputs stands before
abbrev pub is_closed : Option Head → Bool
is_closed (Some Out) = true
is_closed (Some X) = true
is_closed (Some Z) = true
is_closed (Some End) = true
is_closed _ = false

-- nothing is listed or fixed yet
pub record IsUnlisted (before : Lines) : Type 0 where
  pub outputs : names_at is_output before [] ≡ []
  pub xs : names_at is_fixing_x before [] ≡ []
  pub zs : names_at is_fixing_z before [] ≡ []

-- lines whose first name is kept
abbrev pub is_keeping : Option Head → Bool
is_keeping (Some E) = true
is_keeping (Some M) = true
is_keeping _ = false

pub record IsKept {half : ℕ} (k : Reader half) (before : Lines) (here : Words) : Type 0 where
  pub graph : k.graph ≡ graph_so_far half (spelled_at before here)
  pub inputs : k.inputs ≡ length (names_at is_input before here)
  pub outputs : AreNumbers (spelled_at before here).names (spelled_at before here).outputs
      k.outputs.items
  pub sound : IsSound (spelled_at before here)
  pub first : is_keeping (head_in here) ≡ true → (a : List ℕ) → first_in here ≡ Some a
      → place_of (spelled_at before here).names a ≡ Some k.first
  pub free : is_measuring (head_in here) ≡ true → length here ≡ 2
      → angle_rule k.graph k.first ≡ None
  pub order : opens k.fixes (last_head before) here ≡ true
  pub unlisted : is_closed (last_head before) ≡ false → IsUnlisted before
  pub complete : is_closed (last_head before) ≡ true
      → list_all (is_settled (spelled_at before here)) (spelled_at before here).names ≡ true

-- the first name of a line has this number
pub record IsFirst (names : List (List ℕ)) (first : Option (List ℕ)) (number : ℕ) : Type 0 where
  pub name : List ℕ
  pub is : first ≡ Some name
  pub place : place_of names name ≡ Some number

-- what stands before a word
pub record Stands {half : ℕ} (k : Reader half) (p : Point) (s : Spelled)
    (first : Option (List ℕ)) : Type 0 where
  pub graph : k.graph ≡ graph_so_far half s
  pub outputs : AreNumbers s.names s.outputs k.outputs.items
  pub joins : p.count ≡ 2 → is_joining p.head ≡ true → IsFirst s.names first k.first
  pub free : p.count ≡ 2 → is_measuring p.head ≡ true → angle_rule k.graph k.first ≡ None

-- an output is listed, where there is one
abbrev pub Lists : List (List ℕ) → List ℕ → List ℕ → List (List ℕ) → Type 0
Lists names outputs outputs' [] = outputs' ≡ outputs
Lists names outputs outputs' (word ∷ words) =
    (q : ℕ) × (place_of names word ≡ Some q) × (outputs' ≡ outputs ++ q ∷ [])

abbrev pub with_x : OpenGraph → ℕ → OpenGraph
with_x g v = with_fixed g v (record (fixed_at g v) { x = true })

abbrev pub with_z : OpenGraph → ℕ → OpenGraph
with_z g v = with_fixed g v (record (fixed_at g v) { z = true })

-- the graph with the n-th word behind a record word, where the first of them has this number
abbrev pub graph_with : ℕ → OpenGraph → Option Head → ℕ → ℕ → List ℕ → OpenGraph
graph_with half g (Some In) n first word = with_vertex g word
graph_with half g (Some N) n first word = with_vertex g word
graph_with half g (Some E) n first word =
    if n == 2 then with_edge g first (number_in g.names word) else g
graph_with half g (Some M) n first word =
    if n == 2 then with_angle g first (angle_of half word) else g
graph_with half g (Some X) n first word = with_x g (number_in g.names word)
graph_with half g (Some Z) n first word = with_z g (number_in g.names word)
graph_with half g _ n first word = g

abbrev pub next_graph : ℕ → OpenGraph → Point → ℕ → List ℕ → OpenGraph
next_graph half g p first word =
    if p.count == 0 then g else graph_with half g p.head p.count first word

-- what a word with nothing against it does
pub record Moves {half : ℕ} (k k' : Reader half) (p : Point) (word : List ℕ) : Type 0 where
  pub clean : (s : Spelled) (first : Option (List ℕ)) → Stands k p s first
      → judge_by k.fixes s first p.last (role_of p) word ≡ None
  pub names : AreNames k.graph.names
  pub graph : k'.graph ≡ next_graph half k.graph p k.first word
  pub inputs : k'.inputs ≡ k.inputs + length (added is_input p word)
  pub outputs : Lists k.graph.names k.outputs.items k'.outputs.items (added is_output p word)
  pub first : p.count ≡ 1 → is_keeping p.head ≡ true
      → place_of k.graph.names word ≡ Some k'.first
  pub same_first : ¬ (p.count ≡ 1) → k'.first ≡ k.first
  pub free : p.count ≡ 1 → is_measuring p.head ≡ true → angle_rule k'.graph k'.first ≡ None
  pub fixes : k'.fixes ≡ k.fixes
