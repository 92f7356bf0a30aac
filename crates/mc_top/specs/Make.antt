-- `make`: the pattern that is made from the chosen flow of an open graph; or what `flow` answers of
-- a graph that has none.
use Rattle.std.specs.Prelude.{◌≡◌, ◌⊎◌, ℕ, codes}
use Rattle.mc_model.specs.Bits.{Bits}
use Rattle.mc_model.specs.Graph.{OpenGraph}
use Rattle.mc_model.specs.Flow.{IsFlow}
use Rattle.mc_model.specs.Made.{flow_pattern}
use Rattle.mc_pattern_text.specs.Canonical.{pattern_text}
use Rattle.mc_graph.specs.Flows.{FlowRows, IsChosenFlowOf, layer_in, sets_in}
use Rattle.mc_make.specs.Laws.{IsMadeFrom}
use Rattle.mc_document.specs.Documents.{PlainDocument, every_source, source_pattern}
use Rattle.mc_top.specs.Due.{Due, holding}
use Rattle.mc_top.specs.Flow.{IsRefuterDue}
use Rattle.mc_top.specs.GraphSource.{source_graph, IsDueFromGraph}
use Rattle.mc_top.specs.Command.{Command}

-- the text of the pattern that is made from the chosen flow
pub record IsMadeDue (half : ℕ) (g : OpenGraph) (due : Due) : Type 0 where
  pub flow : FlowRows
  pub chosen : IsChosenFlowOf g flow
  pub text : due
      ≡ holding (pattern_text half (flow_pattern g (sets_in flow.rows) (layer_in flow.rows)))

abbrev pub IsMakingDue : ℕ → OpenGraph → Due → Type 0
IsMakingDue half g due = IsMadeDue half g due ⊎ IsRefuterDue half g due

abbrev pub IsDueMake : ℕ → PlainDocument → Due → Type 0
IsDueMake half d due = IsDueFromGraph half d (IsMakingDue half) due

-- whatever the flow, the chosen one too, each branch of the pattern that is made from it is alike
-- with the zero branch of the document's pattern
abbrev pub MeansMake : ℕ → PlainDocument → Type 0
MeansMake half d = (sets : ℕ → Bits) (layer : ℕ → ℕ) → IsFlow (source_graph half d) sets layer →
    IsMadeFrom half (source_pattern half d) (flow_pattern (source_graph half d) sets layer)

abbrev pub make_command : Command
make_command = record {
  word = codes "make";
  takes = every_source;
  IsDue = λ half place d due. IsDueMake half d due;
  Means = MeansMake;
}
