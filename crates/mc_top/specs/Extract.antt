-- `extract`: the circuit that is extracted by the chosen causal flow of an open graph; or the
-- chosen stuck set of a graph that has no causal flow.
use Rattle.std.specs.Prelude.{◌≡◌, ◌⊎◌, ℕ, false, List, Option, None, Some, codes, nat_lt}
use Rattle.std.specs.Prelude.{if◌then◌else◌}
use Rattle.mc_lex.specs.declared.end.TextEnd.{TextEnd}
use Rattle.mc_lex.specs.declared.end.TextEnd.TheVariants as end
use Rattle.mc_model.specs.Limits.{most_gates}
use Rattle.mc_model.specs.Numbers.{is_member}
use Rattle.mc_model.specs.Pattern.{Circuit}
use Rattle.mc_model.specs.Graph.{OpenGraph}
use Rattle.mc_model.specs.Flow.{IsCausalFlow}
use Rattle.mc_model.specs.Choice.{IsChosenStuckSet}
use Rattle.mc_model.specs.Made.{extracted_circuit}
use Rattle.mc_circuit.specs.Canonical.{circuit_text}
use Rattle.mc_graph.specs.Flows.{FlowRows, IsChosenCausalFlowOf, layer_in, next_in}
use Rattle.mc_extract.specs.Answers.{HasNoCausalFlow}
use Rattle.mc_extract.specs.Extracted.{gate_count, HasZeroBranch}
use Rattle.mc_extract.specs.Laws.{IsExtractedFrom}
use Rattle.mc_cert_text.specs.Certs.{nocausal, IsCertOf}
use Rattle.mc_document.specs.Documents.{PlainDocument, document_text, every_source, graph, source_pattern}
use Rattle.mc_top.specs.Due.{Due, IsDueUnless, answer, holding}
use Rattle.mc_top.specs.GraphSource.{source_graph, IsDueFromGraph}
use Rattle.mc_top.specs.Command.{Command}

-- an extracted circuit has at most 32,768 gates
abbrev pub gate_limit : OpenGraph → Option TextEnd
gate_limit g = if nat_lt most_gates (gate_count g) then Some (end.Limit 3 (gate_count g)) else None

-- the text of the circuit that is extracted by the chosen causal flow
pub record IsCircuitDue (half : ℕ) (g : OpenGraph) (due : Due) : Type 0 where
  pub flow : FlowRows
  pub chosen : IsChosenCausalFlowOf g flow
  pub text : due
      ≡ holding (circuit_text half
      (extracted_circuit half g (next_in flow.rows) (layer_in flow.rows)))

-- the graph with its chosen stuck set behind it, and `No`, where it has no causal flow
pub record IsStuckDue (half : ℕ) (g : OpenGraph) (due : Due) : Type 0 where
  pub set : List ℕ
  pub chosen : IsChosenStuckSet g (is_member set)
  pub none : HasNoCausalFlow g
  pub fits : IsCertOf g (nocausal set)
  pub text : due ≡ answer (document_text half (graph g (Some (nocausal set)))) false

abbrev pub IsExtractionDue : ℕ → OpenGraph → Due → Type 0
IsExtractionDue half g due = IsCircuitDue half g due ⊎ IsStuckDue half g due

abbrev pub IsExtractDue : ℕ → OpenGraph → Due → Type 0
IsExtractDue half g = IsDueUnless (gate_limit g) (IsExtractionDue half g)

abbrev pub IsDueExtract : ℕ → PlainDocument → Due → Type 0
IsDueExtract half d due = IsDueFromGraph half d (IsExtractDue half) due

-- the circuit has the zero branch of the document's pattern for its table, up to a phase, doubled
-- for each fixed correction of the graph
abbrev pub IsExtractedOf : ℕ → PlainDocument → Circuit → Type 0
IsExtractedOf half (graph g cert) extracted = HasZeroBranch half g extracted
IsExtractedOf half d extracted = IsExtractedFrom half (source_pattern half d) extracted

-- whatever the causal flow, the chosen one too
abbrev pub MeansExtract : ℕ → PlainDocument → Type 0
MeansExtract half d = (next layer : ℕ → ℕ) → IsCausalFlow (source_graph half d) next layer →
    IsExtractedOf half d (extracted_circuit half (source_graph half d) next layer)

abbrev pub extract_command : Command
extract_command = record {
  word = codes "extract";
  takes = every_source;
  IsDue = λ half place d due. IsDueExtract half d due;
  Means = MeansExtract;
}
