-- `least`: the bound of depth that is chosen for the chosen flow of an open graph, or the chosen
-- refuter of one that has no flow.
use Rattle.std.specs.Prelude.{◌≡◌, ◌⊎◌, ℕ, ◌≤◌, true, List, Option, None, Some, codes, nat_lt}
use Rattle.std.specs.Prelude.{if◌then◌else◌}
use Rattle.mc_lex.specs.declared.end.TextEnd.{TextEnd}
use Rattle.mc_lex.specs.declared.end.TextEnd.TheVariants as end
use Rattle.mc_model.specs.Bits.{Bits}
use Rattle.mc_model.specs.Graph.{OpenGraph, size}
use Rattle.mc_model.specs.Flow.{IsFlow, depth_of}
use Rattle.mc_graph.specs.Flows.{FlowRows, IsChosenFlowOf}
use Rattle.mc_graph.specs.Refuters.{RefuterLine, IsRefuterOf}
use Rattle.mc_gflow.specs.Answers.{HasNoFlow}
use Rattle.mc_cert.specs.BoundRules.{IsBoundOf}
use Rattle.mc_cert.specs.Bounds.{BoundRows}
use Rattle.mc_cert_text.specs.Certs.{least, IsCertOf}
use Rattle.mc_least.specs.Chosen.{IsChosenBoundOf}
use Rattle.mc_document.specs.Documents.{PlainDocument, document_text, graph}
use Rattle.mc_document.specs.Documents.{every_source}
use Rattle.mc_top.specs.Due.{Due, IsDueUnless, answer}
use Rattle.mc_top.specs.Flow.{IsRefuterDue}
use Rattle.mc_top.specs.GraphSource.{source_graph, IsDueFromGraph}
use Rattle.mc_top.specs.Command.{Command}

-- the graph has at most 64 vertices
abbrev pub size_limit : OpenGraph → Option TextEnd
size_limit g = if nat_lt 64 (size g) then Some (end.Limit 8 (size g)) else None

-- the graph with the bound that is chosen for its chosen flow behind it
pub record IsBoundDue (half : ℕ) (g : OpenGraph) (due : Due) : Type 0 where
  pub flow : FlowRows
  pub chosen : IsChosenFlowOf g flow
  pub bound : BoundRows
  pub bounds : IsChosenBoundOf g flow bound
  pub fits : IsCertOf g (least bound)
  pub text : due ≡ answer (document_text half (graph g (Some (least bound)))) true

abbrev pub IsBoundFoundDue : ℕ → OpenGraph → Due → Type 0
IsBoundFoundDue half g due = IsBoundDue half g due ⊎ IsRefuterDue half g due

abbrev pub IsLeastDue : ℕ → OpenGraph → Due → Type 0
IsLeastDue half g = IsDueUnless (size_limit g) (IsBoundFoundDue half g)

abbrev pub IsDueLeast : ℕ → PlainDocument → Due → Type 0
IsDueLeast half d = IsDueFromGraph half d (IsLeastDue half)

-- a bound is below the depth of every flow
abbrev pub IsBelowFlows : OpenGraph → ℕ → Type 0
IsBelowFlows g d = (sets : ℕ → Bits) (layer : ℕ → ℕ) → IsFlow g sets layer → d ≤ depth_of g layer

abbrev pub BoundsHold : OpenGraph → Type 0
BoundsHold g = (b : BoundRows) → IsBoundOf g b.depth b.layers b.rows → IsBelowFlows g b.depth

-- the chosen bound is a bound, below the depth of every flow; a refuter excludes every flow
pub record MeansBound (g : OpenGraph) : Type 0 where
  pub chosen : (f : FlowRows) (b : BoundRows) → IsChosenBoundOf g f b →
      IsBoundOf g b.depth b.layers b.rows × IsBelowFlows g b.depth
  pub refuters : (rows : List RefuterLine) → IsRefuterOf g rows → HasNoFlow g

abbrev pub MeansLeast : ℕ → PlainDocument → Type 0
MeansLeast half d = MeansBound (source_graph half d)

abbrev pub least_command : Command
least_command = record {
  word = codes "least";
  takes = every_source;
  IsDue = λ half place d. IsDueLeast half d;
  Means = MeansLeast;
}
