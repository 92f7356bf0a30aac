-- Something is due where the answer is what is chosen of a graph, or a derivation: that exists.
use Rattle.std.proofs.Common.{◌≡◌, ℕ, ◌≤◌, List, Bool, true, false, nat_lt}
use Rattle.std.proofs.Common.{length, Option, Some, None, IsTrue, refl, arith, inl, inr, [], ◌∷◌}
use Rattle.std.proofs.Common.{codes}
use Rattle.std.specs.Prelude.{IsSomeAnd}
use Rattle.std.proofs.lemmas.Bool.Decides.{nat_tests}
use Rattle.mc_lex.specs.Lines.{lines_of}
use Rattle.mc_model.specs.Bits.{Bits}
use Rattle.mc_model.specs.Choice.{IsChosenFlow}
use Rattle.mc_model.specs.Flow.{depth_of}
use Rattle.mc_model.specs.Graph.{OpenGraph, graph_of, size, IsOpenGraph}
use Rattle.mc_model.specs.Laws.{ChosenFlowsAreFlows}
use Rattle.mc_model.specs.Made.{extracted_circuit, flow_pattern}
use Rattle.mc_model.specs.Pattern.{Circuit, Pattern}
use Rattle.mc_model.specs.StandardForm.{standard_commands, standard_form}
use Rattle.mc_model.specs.Steps.{is_permitted}
use Rattle.mc_model.specs.Translation.{qubit_count, translation}
use Rattle.mc_model.specs.Valid.{IsValidCircuit, IsValidPattern}
use Rattle.mc_model.proofs.StepLemmas.{permitted_positive}
use Rattle.mc_cert.specs.Laws.{ShortBoundsAreFew}
use Rattle.mc_chosen.specs.Laws.{CausalFlowsOrStuckSetsExist, ChosenFlowsHaveBounds}
use Rattle.mc_chosen.specs.Laws.{FlowsOrRefutersExist, HasChosenRefuter}
use Rattle.mc_circuit.specs.Canonical.{circuit_text}
use Rattle.mc_derivations.specs.Laws.{PlacesStaySmall}
use Rattle.mc_graph.specs.Flows.{layer_in, next_in, sets_in}
use Rattle.mc_graph.specs.Laws.{GraphsKeepZeroBranch}
use Rattle.mc_make.specs.Laws.{FlowPatternsAreValid}
use Rattle.mc_pattern_text.specs.Canonical.{pattern_text}
use Rattle.mc_rules.specs.Laws.{StandardIsStandard}
use Rattle.mc_shift.specs.Laws.{HasOneShiftedForm}
use Rattle.mc_trace.specs.Laws.{DerivationsExist}
use Rattle.mc_translate.specs.Laws.{TranslationsAreValid, TranslationsHaveFlows}
use Rattle.mc_text.specs.Judged.{Place, Words}
use Rattle.mc_text.specs.Heads.{is_word}
use Rattle.mc_text.specs.Headers.{half_by, half_in}
use Rattle.mc_text.specs.Stops.{answered}
use Rattle.mc_cert_text.specs.Certs as cert
use Rattle.mc_document.specs.Documents as document
use Rattle.mc_document.specs.Documents.{document_text, IsDocument, PlainDocument}
use Rattle.mc_document.specs.declared.takes.Takes as takes
use Rattle.mc_document.specs.Documents.{circuits_and_patterns, every_source, IsTaken}
use Rattle.mc_document.specs.Places.{first_place}
use Rattle.mc_document.specs.Sections.{first_in_text, spelled}
use Rattle.mc_document.specs.Turns.{first_words, half_of}
use Rattle.mc_top.specs.Commands.{Asked, chooses, command_of, compile, extract, flow, make}
use Rattle.mc_top.specs.Commands.{least, trace}
use Rattle.mc_top.specs.Compile.{IsCompiledText, IsDueCompile}
use Rattle.mc_top.specs.Due.{Due, answer, holding}
use Rattle.mc_top.specs.Extract.{gate_limit, IsExtractDue, IsExtractionDue}
use Rattle.mc_top.specs.Flow.{IsFoundDue, IsRefuterDue}
use Rattle.mc_top.specs.GraphSource.{source_graph}
use Rattle.mc_top.specs.Least.{IsBoundFoundDue, IsLeastDue, size_limit}
use Rattle.mc_top.specs.Make.{IsMakingDue}
use Rattle.mc_top.specs.Serve.{IsDue, IsDueIn, IsDueSpelled, too_long}
use Rattle.mc_top.specs.Source.{source_limit, translation_limit}
use Rattle.mc_top.specs.Trace.{IsDueTrace, IsTraceDue, IsTracedText, trace_limit}
use Rattle.mc_top.proofs.BoundsFit.{bound_fits, few_vertices}
use Rattle.mc_top.proofs.FlowsFit.{chosen_of, lines_fit, numbers_fit}
use Rattle.mc_top.proofs.Serving.{AreSeen, AreTaken, command_due, none_answered, spelled_due}
use Rattle.mc_top.proofs.Serving.{unless_due}
use Rattle.mc_top.proofs.TraceLimits.{within_few}
use Rattle.mc_top.proofs.Tracing.{places_fit}

-- what is proved of the pattern that a circuit is compiled into
pub record FormLaws : Type 0 where
  pub chosen_flow : ChosenFlowsAreFlows
  pub translation_valid : TranslationsAreValid
  pub graph_kept : GraphsKeepZeroBranch
  pub made_valid : FlowPatternsAreValid
  pub standard_valid : StandardIsStandard
  pub one_form : HasOneShiftedForm

-- what exists of graphs, of patterns and of circuits
pub record ChosenLaws : Type 0 where
  pub flows : FlowsOrRefutersExist
  pub causal : CausalFlowsOrStuckSetsExist
  pub bounds : ChosenFlowsHaveBounds
  pub few_bounds : ShortBoundsAreFew
  pub derivations : DerivationsExist
  pub small_places : PlacesStaySmall
  pub translation_flow : TranslationsHaveFlows
  pub forms : FormLaws

within_limit : (c : Circuit) (t : Bool) → nat_lt 256 (qubit_count c) ≡ t →
    translation_limit c ≡ None → qubit_count c ≤ 256
within_limit c true e none = let none' = rw e at none in absurd (cc none')
within_limit c false e none = grind (arith, nat_tests)

pub few_qubits : (c : Circuit) → translation_limit c ≡ None → qubit_count c ≤ 256
few_qubits c none = within_limit c (nat_lt 256 (qubit_count c)) refl none

-- the graph of a circuit within the limit
pub circuit_open : FormLaws → (half : ℕ) → IsTrue (is_permitted half) → (c : Circuit) →
    IsValidCircuit c → qubit_count c ≤ 256 → IsOpenGraph (graph_of half (translation half c))
circuit_open laws half permitted c valid few =
    (laws.graph_kept half (permitted_positive half permitted) (translation half c)
    (laws.translation_valid half c valid few)).graph

-- the standard form of the pattern that is made from its chosen flow is valid
pub standard_made : FormLaws → (half : ℕ) → IsTrue (is_permitted half) → (c : Circuit) →
    IsValidCircuit c → qubit_count c ≤ 256 → (sets : ℕ → Bits) (layer : ℕ → ℕ) →
    IsChosenFlow (graph_of half (translation half c)) sets layer →
    IsValidPattern (standard_form (flow_pattern (graph_of half (translation half c)) sets layer))
standard_made laws half permitted c valid few sets layer chosen =
    let g = graph_of half (translation half c) in
    (laws.standard_valid (flow_pattern g sets layer)
    (laws.made_valid g sets layer (circuit_open laws half permitted c valid few)
    (laws.chosen_flow g sets layer chosen))).valid

module _ (laws : ChosenLaws) (half : ℕ) where
  -- ---- what is due for a graph

  refuter_due : (g : OpenGraph) → HasChosenRefuter g → (due : Due) × IsRefuterDue half g due
  refuter_due g h = (
    answer (document_text half (document.graph g (Some (cert.noflow h.rows)))) false,
    record {
      rows = h.rows;
      chosen = h.chosen;
      none = h.none;
      fits = record { inside = h.chosen.lines; numbers = tt; own = h.own };
      text = refl;
    },
  )

  flow_due : (g : OpenGraph) → size g ≤ 256 → (due : Due) × IsFoundDue half g due
  flow_due g few = elim (laws.flows g) [
    | inl h ↦ (
      answer (document_text half (document.graph g (Some (cert.flow h.rows)))) true,
      inl (record {
        rows = h.rows;
        chosen = h.chosen;
        fits = record {
          inside = lines_fit g h.rows (chosen_of g h.rows h.chosen);
          numbers = numbers_fit g h.rows few h.chosen;
          own = h.own;
        };
        text = refl;
      }),
    )
    | inr h ↦ let refuter = refuter_due g h in (refuter.0, inr refuter.1)
  ]

  make_due : (g : OpenGraph) → (due : Due) × IsMakingDue half g due
  make_due g = elim (laws.flows g) [
    | inl h ↦ (
      holding (pattern_text half (flow_pattern g (sets_in h.rows.rows) (layer_in h.rows.rows))),
      inl (record { flow = h.rows; chosen = h.chosen; text = refl }),
    )
    | inr h ↦ let refuter = refuter_due g h in (refuter.0, inr refuter.1)
  ]

  extraction_due : (g : OpenGraph) → (due : Due) × IsExtractionDue half g due
  extraction_due g = elim (laws.causal g) [
    | inl h ↦ (
      holding (circuit_text half
          (extracted_circuit half g (next_in h.rows.rows) (layer_in h.rows.rows))),
      inl (record { flow = h.rows; chosen = h.chosen; text = refl }),
    )
    | inr h ↦ (
      answer (document_text half (document.graph g (Some (cert.nocausal h.set)))) false,
      inr (record {
        set = h.set;
        chosen = h.chosen;
        none = h.none;
        fits = record { inside = h.inside; numbers = tt; own = h.rising };
        text = refl;
      }),
    )
  ]

  extract_due : (g : OpenGraph) → (due : Due) × IsExtractDue half g due
  extract_due g = unless_due (gate_limit g) (IsExtractionDue half g) (λ none. extraction_due g)

  bound_due : (g : OpenGraph) → size g ≤ 64 → (due : Due) × IsBoundFoundDue half g due
  bound_due g few = elim (laws.flows g) [
    | inl h ↦
        let b = laws.bounds g h.rows h.chosen in
        let fits = bound_fits laws.few_bounds g h.rows b.rows few h.chosen b.chosen in (
          answer (document_text half (document.graph g (Some (cert.least b.rows)))) true,
          inl (record {
            flow = h.rows;
            chosen = h.chosen;
            bound = b.rows;
            bounds = b.chosen;
            fits = record {
              inside = fits.0;
              numbers = fits.1;
              own = (b.chosen.own, b.chosen.order.members);
            };
            text = refl;
          }),
        )
    | inr h ↦ let refuter = refuter_due g h in (refuter.0, inr refuter.1)
  ]

  least_due : (g : OpenGraph) → (due : Due) × IsLeastDue half g due
  least_due g =
      unless_due (size_limit g) (IsBoundFoundDue half g) (λ none. bound_due g (few_vertices g none))

  -- ---- what is due for a pattern

  derivation_due : (p : Pattern) → IsValidPattern p → length p.commands ≤ 64 →
      (due : Due) × IsTracedText half p due
  derivation_due p valid few =
      let led = laws.derivations p.inputs p.commands valid.commands few in
      let form = standard_commands p.inputs p.commands in (
        holding (document_text half (document.traced p led.0)),
        record {
          uses = led.0;
          leads = led.1;
          fits = places_fit led.0 led.1.few
              (laws.small_places p.inputs led.0 p.commands form led.1.derives few);
          text = refl;
        },
      )

  pattern_due : (p : Pattern) → IsValidPattern p → (due : Due) × IsTraceDue half p due
  pattern_due p valid =
      unless_due (trace_limit p) (IsTracedText half p)
      (λ none. derivation_due p valid (within_few p none))

  trace_due : (d : PlainDocument) → IsDocument half d → IsTaken circuits_and_patterns d →
      (due : Due) × IsDueTrace half d due
  trace_due (document.circuit c) valid taken =
      unless_due (translation_limit c) (IsTraceDue half (translation half c))
      (λ none. pattern_due (translation half c)
      (laws.forms.translation_valid half c valid.valid (few_qubits c none)))
  trace_due (document.pattern p change) valid taken = pattern_due p valid.0.valid
  trace_due (document.traced p uses) valid taken = pattern_due p valid.0.valid
  trace_due (document.two p q line column) valid taken = absurd (cc taken.1)
  trace_due (document.graph g c) valid taken = absurd (cc taken.0)
  trace_due _ valid taken = absurd (cc taken)

  -- ---- what is due for a circuit

  module _ (permitted : IsTrue (is_permitted half)) where
    compiled_due : (c : Circuit) → IsValidCircuit c → qubit_count c ≤ 256 →
        (due : Due) × IsCompiledText half c due
    compiled_due c valid few = elim (laws.flows g) [
      | inl h ↦
          let sets = sets_in h.rows.rows in
          let layer = layer_in h.rows.rows in
          let one = laws.forms.one_form (standard_form (flow_pattern g sets layer))
          (standard_made laws.forms half permitted c valid few sets layer h.chosen.flow) in (
            holding (pattern_text half one.the_one),
            record {
              compiled = one.the_one;
              edges = length g.edges;
              depth = depth_of g layer;
              compilation = record {
                sets = sets;
                layer = layer;
                chosen = h.chosen.flow;
                form = one.has;
                edge_count = refl;
                flow_depth = refl;
              };
              text = refl;
            },
          )
      | inr h ↦
          let flow = laws.translation_flow half c valid in
          absurd (h.none flow.0 flow.1 flow.2)
    ]
      where
        g : OpenGraph
        g = graph_of half (translation half c)

    compile_due : (d : PlainDocument) → IsDocument half d → IsTaken (command_of compile).takes d →
        (due : Due) × IsDueCompile half d due
    compile_due (document.circuit c) valid taken =
        unless_due (translation_limit c) (IsCompiledText half c)
        (λ none. compiled_due c valid.valid (few_qubits c none))
    compile_due (document.pattern p change) valid taken = absurd (cc taken.0)
    compile_due (document.traced p uses) valid taken = absurd (cc taken.0)
    compile_due (document.two p q line column) valid taken = absurd (cc taken.0)
    compile_due (document.graph g c) valid taken = absurd (cc taken.0)
    compile_due _ valid taken = absurd (cc taken)

    -- ---- what is due for a document

    pattern_few : (p : Pattern) → IsValidPattern p → size (graph_of half p) ≤ 256
    pattern_few p valid =
        (laws.forms.graph_kept half (permitted_positive half permitted) p valid).graph.names.few

    source_few : (d : PlainDocument) → IsDocument half d → IsTaken every_source d →
        source_limit d ≡ None → size (source_graph half d) ≤ 256
    source_few (document.circuit c) valid taken none =
        (circuit_open laws.forms half permitted c valid.valid (few_qubits c none)).names.few
    source_few (document.pattern p change) valid taken none = pattern_few p valid.0.valid
    source_few (document.traced p uses) valid taken none = pattern_few p valid.0.valid
    source_few (document.two p q line column) valid taken none = absurd (cc taken.1)
    source_few (document.graph g c) valid taken none = valid.0.open_graph.names.few
    source_few _ valid taken none = absurd (cc taken)

    chosen_due : (asked : Asked) (place : Place) (d : PlainDocument) → chooses asked ≡ true →
        IsDocument half d → IsTaken (command_of asked).takes d →
        (due : Due) × (command_of asked).IsDue half place d due
    chosen_due flow place d e valid taken =
        unless_due (source_limit d) (IsFoundDue half (source_graph half d))
        (λ none. flow_due (source_graph half d) (source_few d valid taken none))
    chosen_due make place d e valid taken =
        unless_due (source_limit d) (IsMakingDue half (source_graph half d))
        (λ none. make_due (source_graph half d))
    chosen_due extract place d e valid taken =
        unless_due (source_limit d) (IsExtractDue half (source_graph half d))
        (λ none. extract_due (source_graph half d))
    chosen_due compile place d e valid taken = compile_due d valid taken
    chosen_due trace place d e valid taken = trace_due d valid taken
    chosen_due least place d e valid taken =
        unless_due (source_limit d) (IsLeastDue half (source_graph half d))
        (λ none. least_due (source_graph half d))
    chosen_due _ place d e valid taken = absurd (cc e)

-- ---- what is due for a text

-- texts without faults spell valid documents
abbrev pub AreValid : Type 0
AreValid = (half : ℕ) → IsTrue (is_permitted half) → (kinds : takes.Takes) (text : List ℕ) →
    first_in_text half kinds text ≡ None → IsSomeAnd (spelled half text) (IsDocument half)

pub both_some : {A : Type 0} (o : Option A) (P Q : A → Type 0) → IsSomeAnd o P → IsSomeAnd o Q →
    IsSomeAnd o (λ x. P x × Q x)
both_some None P Q h k = absurd h
both_some (Some x) P Q h k = (h, k)

pub in_due : ChosenLaws → AreSeen → AreTaken → AreValid → (half : ℕ) (asked : Asked)
    (text : List ℕ) → (chooses asked ≡ true → IsTrue (is_permitted half)) →
    (due : Due) × IsDueIn half asked text due
in_due laws seen are_taken are_valid half asked text permitted =
    unless_due (answered (first_in_text half kinds text)) (IsDueSpelled half asked text)
    (λ none.
    let clean = none_answered (first_in_text half kinds text) none in
    by_choice (chooses asked) refl clean (are_taken half kinds text clean))
  where
    kinds : takes.Takes
    kinds = (command_of asked).takes

    by_choice : (t : Bool) → chooses asked ≡ t → first_in_text half kinds text ≡ None →
        IsSomeAnd (spelled half text) (IsTaken kinds) →
        (due : Due) × IsDueSpelled half asked text due
    by_choice false e clean taken =
        spelled_due (spelled half text) (IsTaken kinds)
        ((command_of asked).IsDue half (first_place text)) taken
        (λ d here. command_due seen asked half (first_place text) d e here)
    by_choice true e clean taken =
        spelled_due (spelled half text) (λ d. IsDocument half d × IsTaken kinds d)
        ((command_of asked).IsDue half (first_place text))
        (both_some (spelled half text) (IsDocument half) (IsTaken kinds)
        (are_valid half (permitted e) kinds text clean) taken)
        (λ d here. chosen_due laws half (permitted e) asked (first_place text) d e here.0 here.1)

-- the steps that a text says are permitted
by_number : (number : List ℕ) → IsTrue (is_permitted (half_by number))
by_number number = by (is_word (codes "16") number) refl
  where
    by : (t : Bool) → is_word (codes "16") number ≡ t → IsTrue (is_permitted (half_by number))
    by true e = rw e refl
    by false e = rw e refl

by_words : (words : Words) → IsTrue (is_permitted (half_in words))
by_words [] = refl
by_words (kind ∷ []) = refl
by_words (kind ∷ version ∷ []) = refl
by_words (kind ∷ version ∷ turn ∷ []) = refl
by_words (kind ∷ version ∷ turn ∷ number ∷ words) = by (is_word (codes "turn") turn) refl
  where
    by : (t : Bool) → is_word (codes "turn") turn ≡ t →
        IsTrue (is_permitted (half_in (kind ∷ version ∷ turn ∷ number ∷ words)))
    by true e = rw e (by_number number)
    by false e = rw e refl

pub half_permitted : (text : List ℕ) → IsTrue (is_permitted (half_of text))
half_permitted text = by_words (first_words (lines_of text))

pub of_due : ChosenLaws → AreSeen → AreTaken → AreValid → (asked : Asked) (text : List ℕ) →
    (due : Due) × IsDue asked text due
of_due laws seen are_taken are_valid asked text =
    unless_due (too_long text) (IsDueIn (half_of text) asked text)
    (λ short. in_due laws seen are_taken are_valid (half_of text) asked text
    (λ e. half_permitted text))
