-- `flow`: the chosen flow of an open graph, or the chosen refuter of one that has no flow.
use Rattle.std.specs.Prelude.{◌≡◌, ◌⊎◌, ℕ, ◌<◌, ◌≤◌, true, false, List, Some, codes}
use Rattle.mc_model.specs.Bits.{Bits}
use Rattle.mc_model.specs.Graph.{OpenGraph, size}
use Rattle.mc_model.specs.Flow.{IsFlow, depth_of}
use Rattle.mc_graph.specs.Flows.{FlowRows, layer_in, IsFlowOf, IsChosenFlowOf}
use Rattle.mc_graph.specs.Refuters.{RefuterLine, IsRefuterOf, IsChosenRefuterOf}
use Rattle.mc_gflow.specs.Answers.{HasNoFlow}
use Rattle.mc_cert_text.specs.Certs.{flow, noflow, IsCertOf}
use Rattle.mc_document.specs.Documents.{PlainDocument, document_text, graph}
use Rattle.mc_document.specs.Documents.{every_source}
use Rattle.mc_top.specs.Due.{Due, answer}
use Rattle.mc_top.specs.GraphSource.{source_graph, IsDueFromGraph}
use Rattle.mc_top.specs.Command.{Command}

-- the graph with its chosen flow behind it
pub record IsFlowDue (half : ℕ) (g : OpenGraph) (due : Due) : Type 0 where
  pub rows : FlowRows
  pub chosen : IsChosenFlowOf g rows
  pub fits : IsCertOf g (flow rows)
  pub text : due ≡ answer (document_text half (graph g (Some (flow rows)))) true

-- the graph with its chosen refuter behind it, and `No`, where it has no flow
pub record IsRefuterDue (half : ℕ) (g : OpenGraph) (due : Due) : Type 0 where
  pub rows : List RefuterLine
  pub chosen : IsChosenRefuterOf g rows
  pub none : HasNoFlow g
  pub fits : IsCertOf g (noflow rows)
  pub text : due ≡ answer (document_text half (graph g (Some (noflow rows)))) false

abbrev pub IsFoundDue : ℕ → OpenGraph → Due → Type 0
IsFoundDue half g due = IsFlowDue half g due ⊎ IsRefuterDue half g due

abbrev pub IsDueFlow : ℕ → PlainDocument → Due → Type 0
IsDueFlow half d = IsDueFromGraph half d (IsFoundDue half)

-- no flow has a smaller layer for any vertex, and none is less deep
pub record IsLeastFlow (g : OpenGraph) (f : FlowRows) : Type 0 where
  pub flow : IsFlowOf g f
  pub layers : (sets : ℕ → Bits) (layer : ℕ → ℕ) → IsFlow g sets layer →
      (v : ℕ) → v < size g → layer_in f.rows v ≤ layer v
  pub depth : (sets : ℕ → Bits) (layer : ℕ → ℕ) → IsFlow g sets layer → f.depth ≤ depth_of g layer

-- the chosen flow is a flow, and none is less deep; a refuter excludes every flow
pub record MeansFound (g : OpenGraph) : Type 0 where
  pub flows : (f : FlowRows) → IsChosenFlowOf g f → IsLeastFlow g f
  pub refuters : (rows : List RefuterLine) → IsRefuterOf g rows → HasNoFlow g

abbrev pub MeansFlow : ℕ → PlainDocument → Type 0
MeansFlow half d = MeansFound (source_graph half d)

abbrev pub flow_command : Command
flow_command = record {
  word = codes "flow";
  takes = every_source;
  IsDue = λ half place d. IsDueFlow half d;
  Means = MeansFlow;
}
