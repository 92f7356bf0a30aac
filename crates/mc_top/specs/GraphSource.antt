-- The open graph of a document.
use Rattle.std.specs.Prelude.{ℕ}
use Rattle.mc_model.specs.Graph.{OpenGraph, graph_of}
use Rattle.mc_document.specs.Documents.{PlainDocument, graph, source_pattern}
use Rattle.mc_top.specs.Due.{Due, IsDueUnless}
use Rattle.mc_top.specs.Source.{source_limit}

-- the graph itself; of any other document, that of the pattern that it stands for
abbrev pub source_graph : ℕ → PlainDocument → OpenGraph
source_graph half (graph g cert) = g
source_graph half d = graph_of half (source_pattern half d)

-- what is due where the answer is made of the graph of a document
abbrev pub IsDueFromGraph : ℕ → PlainDocument → (OpenGraph → Due → Type 0) → Due → Type 0
IsDueFromGraph half d IsDueOf = IsDueUnless (source_limit d) (IsDueOf (source_graph half d))
