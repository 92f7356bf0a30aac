-- `graph`: the open graph of a pattern.
use Rattle.std.specs.Prelude.{◌≡◌, ℕ, codes, Option, Some, IsSomeAnd}
use Rattle.mc_model.specs.Graph.{graph_of}
use Rattle.mc_graph.specs.Laws.{KeepsZeroBranch}
use Rattle.mc_graph_text.specs.Canonical.{graph_text}
use Rattle.mc_document.specs.Documents.{PlainDocument}
use Rattle.mc_document.specs.Documents.{circuits_and_patterns}
use Rattle.mc_top.specs.Due.{Due}
use Rattle.mc_top.specs.Source.{source_in, due_from}
use Rattle.mc_top.specs.Command.{Command}

abbrev pub due_graph : ℕ → PlainDocument → Option Due
due_graph half d = due_from half d (λ p. graph_text half (graph_of half p))

-- the graph's pattern without a flow keeps the zero branch and the scale of the pattern
abbrev pub MeansGraph : ℕ → PlainDocument → Type 0
MeansGraph half d = IsSomeAnd (source_in half d) (KeepsZeroBranch half)

abbrev pub graph_command : Command
graph_command = record {
  word = codes "graph";
  takes = circuits_and_patterns;
  IsDue = λ half place d due. due_graph half d ≡ Some due;
  Means = MeansGraph;
}
