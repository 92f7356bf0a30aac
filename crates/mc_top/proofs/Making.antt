-- What is meant where patterns are made and circuits are extracted.
use Rattle.std.proofs.Common.{◌≡◌, ◌∙◌, ℕ, ◌<◌, ◌≤◌, Bool, true, false, Option, Some, None, nat_lt}
use Rattle.std.proofs.Common.{Err, refl, ap, arith}
use Rattle.std.proofs.lemmas.Bool.Decides.{nat_tests}
use Rattle.mc_lex.specs.declared.end.TextEnd.{TextEnd}
use Rattle.mc_lex.specs.declared.end.TextEnd.TheVariants as end
use Rattle.mc_model.specs.Phase.{turn}
use Rattle.mc_model.specs.Ring.{Element, ring}
use Rattle.mc_model.specs.Pattern.{Circuit}
use Rattle.mc_model.specs.Graph.{OpenGraph}
use Rattle.mc_model.specs.Translation.{translation, qubit_count}
use Rattle.mc_translate.specs.Laws.{TranslationsAreValid}
use Rattle.mc_make.specs.Laws.{FlowPatternsAreDeterministic, FlowPatternsAreMade}
use Rattle.mc_make.specs.Laws.{FlowPatternsAreValid, FlowPatternsKeepScale}
use Rattle.mc_make.specs.Laws.{ZeroBranchOfFlowPattern}
use Rattle.mc_extract.specs.Laws.{CircuitsAreExtracted, ExtractedCircuitHasTable}
use Rattle.mc_extract.specs.Laws.{ExtractedCircuitScale, ExtractedCircuitsAreValid}
use Rattle.mc_extract.specs.Laws.{ExtractedGatesAreEdges}
use Rattle.mc_document.specs.Documents.{PlainDocument, circuit, graph, pattern, traced, two}
use Rattle.mc_document.specs.Documents.{IsDocument, IsTaken, every_source}
use Rattle.mc_extract.specs.Extracted.{gate_count}
use Rattle.mc_top.specs.Due.{Due, GivesDue, IsDueUnless}
use Rattle.mc_top.specs.Extract.{gate_limit, MeansExtract}
use Rattle.mc_top.specs.Make.{MeansMake}
use Rattle.mc_top.specs.Source.{source_limit, translation_limit}

-- what is proved of patterns that are made from flows
pub record MakeLaws : Type 0 where
  pub translated : TranslationsAreValid
  pub made : FlowPatternsAreMade
  pub valid : FlowPatternsAreValid
  pub scale : FlowPatternsKeepScale
  pub alike : FlowPatternsAreDeterministic
  pub zero : ZeroBranchOfFlowPattern

-- what is proved of circuits that are extracted by causal flows
pub record ExtractLaws : Type 0 where
  pub translated : TranslationsAreValid
  pub extracted : CircuitsAreExtracted
  pub valid : ExtractedCircuitsAreValid
  pub gates : ExtractedGatesAreEdges
  pub scale : ExtractedCircuitScale
  pub table : ExtractedCircuitHasTable

few_by : (c : Circuit) (t : Bool) → nat_lt 256 (qubit_count c) ≡ t →
    translation_limit c ≡ None → qubit_count c ≤ 256
few_by c true e none = absurd (cc (rw e at none))
few_by c false e none = grind (arith, nat_tests)

few_qubits : (c : Circuit) → translation_limit c ≡ None → qubit_count c ≤ 256
few_qubits c none = few_by c (nat_lt 256 (qubit_count c)) refl none

pub makes : MakeLaws → (half : ℕ) → 0 < half → (d : PlainDocument) → IsTaken every_source d →
    IsDocument half d → source_limit d ≡ None → MeansMake half d
makes laws half positive (circuit c) taken valid few =
    laws.made half positive (translation half c)
    (laws.translated half c valid.valid (few_qubits c few))
makes laws half positive (pattern p change) taken valid few =
    laws.made half positive p valid.0.valid
makes laws half positive (traced p uses) taken valid few =
    laws.made half positive p valid.0.valid
makes laws half positive (two p q line column) taken valid few = absurd (cc taken.1)
makes laws half positive (graph g cert) taken valid few = λ sets layer flow.
    let is_open = valid.0.open_graph in
    let zero = laws.zero half positive g is_open sets layer flow in
    record {
      valid = laws.valid g sets layer is_open flow;
      scale = laws.scale g sets layer flow;
      alike = λ o.
          let alike = laws.alike half positive g is_open sets layer flow o in
          record {
            phase = alike.phase;
            within = alike.within;
            same = λ y b.
                alike.same y b
                ∙ ap (λ (e : Element half). turn (ring half) alike.phase e) (zero y b);
          };
      exact = λ free y b. zero y b;
    }
makes laws half positive _ taken valid few = absurd (cc taken)

pub extracts : ExtractLaws → (half : ℕ) → 0 < half → (d : PlainDocument) →
    IsTaken every_source d → IsDocument half d → source_limit d ≡ None → MeansExtract half d
extracts laws half positive (circuit c) taken valid few =
    laws.extracted half positive (translation half c)
    (laws.translated half c valid.valid (few_qubits c few))
extracts laws half positive (pattern p change) taken valid few =
    laws.extracted half positive p valid.0.valid
extracts laws half positive (traced p uses) taken valid few =
    laws.extracted half positive p valid.0.valid
extracts laws half positive (two p q line column) taken valid few = absurd (cc taken.1)
extracts laws half positive (graph g cert) taken valid few = λ next layer flow.
    let is_open = valid.0.open_graph in
    record {
      valid = laws.valid half g is_open next layer flow;
      gates = (laws.gates half g is_open next layer flow).0;
      scale = laws.scale half g is_open next layer flow;
      same = laws.table half positive g is_open next layer flow;
    }
extracts laws half positive _ taken valid few = absurd (cc taken)

-- ---- the gates of an extracted circuit

gates_by : (g : OpenGraph) (t : Bool) → nat_lt 32768 (gate_count g) ≡ t → gate_limit g ≡ None →
    gate_count g ≤ 32768
gates_by g true e none = absurd (cc (rw e at none))
gates_by g false e none = grind (arith, nat_tests)

pub few_gates : (g : OpenGraph) → gate_limit g ≡ None → gate_count g ≤ 32768
few_gates g none = gates_by g (nat_lt 32768 (gate_count g)) refl none

-- a limit that is passed is due
pub end_is_due : (limit : Option TextEnd) (Owed : Due → Type 0) (passed : TextEnd) →
    limit ≡ Some passed → GivesDue (IsDueUnless limit Owed) (Err passed)
end_is_due limit Owed (end.Refused code line column) h = rw h refl
end_is_due limit Owed (end.Limit which found) h = rw h refl
end_is_due limit Owed end.Memory h = tt
