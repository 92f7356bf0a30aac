-- Graphs that are being built: what a builder keeps, and what each of its calls adds.
use Rattle.std.specs.Prelude.{◌≡◌, ℕ, ◌*◌, ◌<◌, ◌≤◌, Bool, true, List, [], ◌∷◌, ◌++◌, map}
use Rattle.std.specs.Prelude.{length, replicate, IsTrue, None, Some, slice_set, ◌||◌}
use Rattle.mc_model.specs.Bits.{same_pair}
use Rattle.mc_model.specs.Names.{Name, AreNames, place_of}
use Rattle.mc_model.specs.Numbers.{pairs_below}
use Rattle.mc_model.specs.Steps.{is_permitted}
use Rattle.mc_model.specs.Graph.{OpenGraph, edge, Fixed, not_fixed, size, joins, EdgesRise}
use Rattle.mc_model.specs.Graph.{base_angle}
use Rattle.mc_graph.specs.Links.{linked, AreLinks}
use Rattle.mc_graph.specs.declared.label.Label.{Label}
use Rattle.mc_graph.specs.Graphs.{plain_fixed}

-- a graph so far: without outputs
pub record IsBegun (half : ℕ) (g : OpenGraph) : Type 0 where
  pub names : AreNames g.names
  pub inputs : g.inputs ≤ size g
  pub edges : EdgesRise (size g) g.edges
  pub angles : length g.angles ≡ size g
  pub fixed : length g.fixed ≡ size g
  pub outputs : g.outputs ≡ []
  pub within : (v a : ℕ) → base_angle g v ≡ Some a → a < 2 * half
  pub permitted : IsTrue (is_permitted half)

-- the inputs alone
abbrev pub begun : List Name → OpenGraph
begun names =
    let n = length names in
    record {
      names = names;
      inputs = n;
      outputs = [];
      edges = [];
      angles = replicate n None;
      fixed = replicate n not_fixed;
    }

abbrev pub with_inputs : OpenGraph → ℕ → OpenGraph
with_inputs g count = record g { inputs = count }

-- a vertex with this name may be added: the name is not held, and there is room
pub record IsFree (g : OpenGraph) (name : Name) : Type 0 where
  pub new : place_of g.names name ≡ None
  pub few : size g < 256

abbrev pub with_vertex : OpenGraph → Name → OpenGraph
with_vertex g name = record g {
  names = g.names ++ (name ∷ []);
  angles = g.angles ++ (None ∷ []);
  fixed = g.fixed ++ (not_fixed ∷ []);
}

-- the edges and one more, in rising order
abbrev pub with_edge : OpenGraph → ℕ → ℕ → OpenGraph
with_edge g a b = record g {
  edges = pairs_below edge (λ v w. joins g.edges v w || same_pair v w a b) (size g) (size g);
}

abbrev pub with_angle : OpenGraph → ℕ → ℕ → OpenGraph
with_angle g v angle = record g { angles = slice_set g.angles v (Some angle) }

abbrev pub with_fixed : OpenGraph → ℕ → Fixed → OpenGraph
with_fixed g v fixed = record g { fixed = slice_set g.fixed v fixed }

abbrev pub with_outputs : OpenGraph → List ℕ → OpenGraph
with_outputs g outputs = record g { outputs = outputs }

-- a graph so far, by what a builder holds
abbrev pub graph_so_far : {half : ℕ} → List Name → ℕ → List Bool → List (Label half) → OpenGraph
graph_so_far names inputs links labels = record {
  names = names;
  inputs = inputs;
  outputs = [];
  edges = pairs_below edge (linked links) (length names) (length names);
  angles = map (λ l. l.angle) labels;
  fixed = map (λ l. plain_fixed l.fixed) labels;
}

-- only vertices are joined
pub record IsBuilt (half : ℕ) (g : OpenGraph) (links : List Bool) : Type 0 where
  pub begun : IsBegun half g
  pub either : AreLinks links
  pub vertices : (v w : ℕ) → linked links v w ≡ true → v < size g
