-- Only one thing is due for a text.
use Rattle.std.proofs.Common.{◌≡◌, ◌≤◌, ℕ, List, true, false, Option, Some, None, refl, sym, ap}
use Rattle.std.proofs.Common.{◌∙◌, inl, inr, IsTrue, subst}
use Rattle.std.specs.Prelude.{IsSomeAnd}
use Rattle.mc_lex.specs.declared.end.TextEnd.{TextEnd}
use Rattle.mc_model.specs.Graph.{OpenGraph, graph_of}
use Rattle.mc_model.specs.Pattern.{Circuit, Pattern}
use Rattle.mc_model.specs.Made.{flow_pattern}
use Rattle.mc_model.specs.Shift.{IsShiftedForm}
use Rattle.mc_model.specs.StandardForm.{standard_form}
use Rattle.mc_model.specs.Steps.{is_permitted}
use Rattle.mc_model.specs.Translation.{qubit_count, translation}
use Rattle.mc_model.specs.Valid.{IsValidCircuit}
use Rattle.mc_circuit.specs.Canonical.{circuit_text}
use Rattle.mc_extract.specs.Laws.{ChosenCausalFlowsAreFlows, ChosenCausalFlowsAreUnique}
use Rattle.mc_extract.specs.Laws.{ChosenStuckSetsAreUnique}
use Rattle.mc_pattern_text.specs.Canonical.{pattern_text}
use Rattle.mc_text.specs.Judged.{Place}
use Rattle.mc_text.specs.Stops.{answered}
use Rattle.mc_graph.specs.Flows.{FlowRows, layer_in, next_in, sets_in}
use Rattle.mc_graph.specs.Refuters.{RefuterLine}
use Rattle.mc_cert_text.specs.Certs as cert
use Rattle.mc_document.specs.Documents as document
use Rattle.mc_document.specs.Documents.{IsDocument, PlainDocument, document_text}
use Rattle.mc_document.specs.Places.{first_place}
use Rattle.mc_document.specs.Sections.{first_in_text, spelled}
use Rattle.mc_document.specs.Turns.{half_of}
use Rattle.mc_document.specs.declared.takes.Takes as takes
use Rattle.mc_top.specs.Commands.{Asked, translate, print, standard, shift, run, run_branch, graph}
use Rattle.mc_top.specs.Commands.{beside, chain, check, command_of, compile, extract, flow, least}
use Rattle.mc_top.specs.Commands.{lower, make, trace}
use Rattle.mc_top.specs.Compile.{IsCompiledText, IsDueCompile}
use Rattle.mc_top.specs.Due.{Due, IsDueUnless, answer, holding}
use Rattle.mc_top.specs.Extract.{IsExtractDue, IsExtractionDue}
use Rattle.mc_top.specs.Extract.{gate_limit}
use Rattle.mc_top.specs.Flow.{IsFoundDue}
use Rattle.mc_top.specs.GraphSource.{source_graph}
use Rattle.mc_top.specs.Make.{IsMakingDue}
use Rattle.mc_cert.specs.Bounds.{BoundRows}
use Rattle.mc_top.specs.Least.{IsBoundFoundDue, IsLeastDue, size_limit}
use Rattle.mc_top.specs.Serve.{IsDue, IsDueIn, IsDueSpelled, too_long}
use Rattle.mc_top.specs.Source.{source_limit, translation_limit}
use Rattle.mc_top.proofs.FlowsFit.{chosen_of}
use Rattle.mc_top.proofs.OneBound.{one_chosen_bound}
use Rattle.mc_top.proofs.OneChoice.{one_chosen_flow, one_chosen_refuter}
use Rattle.mc_top.proofs.OneMade.{one_extracted, one_flow_pattern, one_stuck}
use Rattle.mc_top.proofs.VerdictsDue.{one_check}
use Rattle.mc_top.proofs.OrderedRows.{same_members}
use Rattle.mc_top.proofs.ChosenDue.{AreValid, FormLaws, few_qubits, half_permitted}
use Rattle.mc_top.proofs.ChosenDue.{standard_made}
use Rattle.mc_top.proofs.Serving.{none_answered}

-- one thing at most is due
abbrev IsOne : (Due → Type 0) → Type 0
IsOne Owed = (due due' : Due) → Owed due → Owed due' → due ≡ due'

one_unless : (first : Option TextEnd) (Owed : Due → Type 0) → IsOne Owed →
    IsOne (IsDueUnless first Owed)
one_unless None Owed one due due' h h' = one due due' h h'
one_unless (Some end) Owed one due due' h h' = h ∙ sym h'

-- where no refusal comes first
one_where : (first : Option TextEnd) (Owed : Due → Type 0) → (first ≡ None → IsOne Owed) →
    IsOne (IsDueUnless first Owed)
one_where None Owed one due due' h h' = one refl due due' h h'
one_where (Some end) Owed one due due' h h' = h ∙ sym h'

one_spelled : (found : Option PlainDocument) (P : PlainDocument → Type 0)
    (Owed : PlainDocument → Due → Type 0) → IsSomeAnd found P →
    ((d : PlainDocument) → P d → IsOne (Owed d)) →
    IsOne (λ due. IsSomeAnd found (λ d. Owed d due))
one_spelled None P Owed valid one due due' h h' = absurd h
one_spelled (Some d) P Owed valid one due due' h h' = one d valid due due' h h'

one_some : (o : Option Due) → IsOne (λ due. o ≡ Some due)
one_some o due due' h h' = let e : Some due ≡ Some due' = sym h ∙ h' in cc e

flow_answer : ℕ → OpenGraph → FlowRows → Due
flow_answer half g rows =
    answer (document_text half (document.graph g (Some (cert.flow rows)))) true

refuter_answer : ℕ → OpenGraph → List RefuterLine → Due
refuter_answer half g rows =
    answer (document_text half (document.graph g (Some (cert.noflow rows)))) false

one_found : (half : ℕ) (g : OpenGraph) → IsOne (IsFoundDue half g)
unfolding flow_answer refuter_answer
one_found half g due due' (inl p) (inl q) =
    p.text ∙ ap (flow_answer half g)
    (one_chosen_flow g p.rows q.rows p.chosen q.chosen p.fits.own.1 q.fits.own.1) ∙ sym q.text
one_found half g due due' (inl p) (inr q) =
    absurd (q.none (sets_in p.rows.rows) (layer_in p.rows.rows) (chosen_of g p.rows p.chosen).flow)
one_found half g due due' (inr p) (inl q) =
    absurd (p.none (sets_in q.rows.rows) (layer_in q.rows.rows) (chosen_of g q.rows q.chosen).flow)
one_found half g due due' (inr p) (inr q) =
    p.text ∙ ap (refuter_answer half g)
    (one_chosen_refuter g p.rows q.rows p.chosen q.chosen p.fits.own.1 q.fits.own.1) ∙ sym q.text

bound_answer : ℕ → OpenGraph → BoundRows → Due
bound_answer half g b =
    answer (document_text half (document.graph g (Some (cert.least b)))) true

one_bound_found : (half : ℕ) (g : OpenGraph) → IsOne (IsBoundFoundDue half g)
unfolding bound_answer
one_bound_found half g due due' (inl p) (inl q) =
    p.text ∙ ap (bound_answer half g)
    (one_chosen_bound g p.flow q.flow p.bound q.bound p.chosen q.chosen p.bounds q.bounds)
    ∙ sym q.text
one_bound_found half g due due' (inl p) (inr q) =
    absurd (q.none (sets_in p.flow.rows) (layer_in p.flow.rows) (chosen_of g p.flow p.chosen).flow)
one_bound_found half g due due' (inr p) (inl q) =
    absurd (p.none (sets_in q.flow.rows) (layer_in q.flow.rows) (chosen_of g q.flow q.chosen).flow)
one_bound_found half g due due' (inr p) (inr q) = one_found half g due due' (inr p) (inr q)

made_answer : ℕ → Pattern → Due
made_answer half p = holding (pattern_text half p)

one_making : (half : ℕ) (g : OpenGraph) → IsOne (IsMakingDue half g)
unfolding made_answer
one_making half g due due' (inl p) (inl q) =
    p.text
    ∙ ap (made_answer half)
    (one_flow_pattern g (sets_in p.flow.rows) (sets_in q.flow.rows) (layer_in p.flow.rows)
    (layer_in q.flow.rows) p.chosen.flow q.chosen.flow)
    ∙ sym q.text
one_making half g due due' (inl p) (inr q) =
    absurd (q.none (sets_in p.flow.rows) (layer_in p.flow.rows) (chosen_of g p.flow p.chosen).flow)
one_making half g due due' (inr p) (inl q) =
    absurd (p.none (sets_in q.flow.rows) (layer_in q.flow.rows) (chosen_of g q.flow q.chosen).flow)
one_making half g due due' (inr p) (inr q) = one_found half g due due' (inr p) (inr q)

-- what is proved of chosen causal flows and stuck sets
pub record CausalLaws : Type 0 where
  pub flows : ChosenCausalFlowsAreFlows
  pub one_flow : ChosenCausalFlowsAreUnique
  pub one_set : ChosenStuckSetsAreUnique

circuit_answer : ℕ → Circuit → Due
circuit_answer half c = holding (circuit_text half c)

stuck_answer : ℕ → OpenGraph → List ℕ → Due
stuck_answer half g set =
    answer (document_text half (document.graph g (Some (cert.nocausal set)))) false

one_extraction : CausalLaws → (half : ℕ) (g : OpenGraph) → IsOne (IsExtractionDue half g)
unfolding circuit_answer stuck_answer
one_extraction laws half g due due' (inl p) (inl q) =
    p.text
    ∙ ap (circuit_answer half)
    (one_extracted laws.one_flow half g (next_in p.flow.rows) (next_in q.flow.rows)
    (layer_in p.flow.rows) (layer_in q.flow.rows) p.chosen.flow q.chosen.flow)
    ∙ sym q.text
one_extraction laws half g due due' (inl p) (inr q) =
    absurd (q.none (next_in p.flow.rows) (layer_in p.flow.rows)
    (laws.flows g (next_in p.flow.rows) (layer_in p.flow.rows) p.chosen.flow))
one_extraction laws half g due due' (inr p) (inl q) =
    absurd (p.none (next_in q.flow.rows) (layer_in q.flow.rows)
    (laws.flows g (next_in q.flow.rows) (layer_in q.flow.rows) q.chosen.flow))
one_extraction laws half g due due' (inr p) (inr q) =
    p.text
    ∙ ap (stuck_answer half g)
    (same_members p.set q.set p.fits.own q.fits.own
    (one_stuck laws.one_set g p.set q.set p.chosen q.chosen p.fits.inside q.fits.inside))
    ∙ sym q.text

-- what is compiled from a circuit is one: it is the shifted form of one pattern
one_compiled : FormLaws → (half : ℕ) → IsTrue (is_permitted half) → (c : Circuit) →
    IsValidCircuit c → qubit_count c ≤ 256 → IsOne (IsCompiledText half c)
unfolding made_answer
one_compiled laws half permitted c valid few due due' p q =
    let g = graph_of half (translation half c) in
    let a = p.compilation in
    let b = q.compilation in
    let same = one_flow_pattern g b.sets a.sets b.layer a.layer b.chosen a.chosen in
    let one = laws.one_form (standard_form (flow_pattern g a.sets a.layer))
    (standard_made laws half permitted c valid few a.sets a.layer a.chosen) in
    let other = one.only q.compiled
    (subst (λ (m : Pattern). IsShiftedForm (standard_form m) q.compiled) same b.form) in
    p.text ∙ ap (made_answer half) (one.only p.compiled a.form ∙ sym other) ∙ sym q.text

one_compile : FormLaws → (half : ℕ) → IsTrue (is_permitted half) → (d : PlainDocument) →
    IsDocument half d → IsOne (IsDueCompile half d)
one_compile laws half permitted (document.circuit c) valid =
    one_where (translation_limit c) (IsCompiledText half c)
    (λ none. one_compiled laws half permitted c valid.valid (few_qubits c none))
one_compile laws half permitted _ valid = λ due due' h h'. absurd h

one_command : CausalLaws → FormLaws → (half : ℕ) → IsTrue (is_permitted half) →
    (asked : Asked) → (asked ≡ trace → ⊥) → (place : Place) (d : PlainDocument) →
    IsDocument half d → IsOne ((command_of asked).IsDue half place d)
one_command causal laws half permitted translate other place d valid = one_some _
one_command causal laws half permitted print other place d valid = one_some _
one_command causal laws half permitted standard other place d valid = one_some _
one_command causal laws half permitted shift other place d valid = one_some _
one_command causal laws half permitted run other place d valid = one_some _
one_command causal laws half permitted (run_branch outcomes) other place d valid = one_some _
one_command causal laws half permitted graph other place d valid = one_some _
one_command causal laws half permitted flow other place d valid =
    one_unless (source_limit d) (IsFoundDue half (source_graph half d))
    (one_found half (source_graph half d))
one_command causal laws half permitted check other place d valid = one_check d
one_command causal laws half permitted make other place d valid =
    one_unless (source_limit d) (IsMakingDue half (source_graph half d))
    (one_making half (source_graph half d))
one_command causal laws half permitted extract other place d valid =
    let g = source_graph half d in
    one_unless (source_limit d) (IsExtractDue half g)
    (one_unless (gate_limit g) (IsExtractionDue half g) (one_extraction causal half g))
one_command causal laws half permitted compile other place d valid =
    one_compile laws half permitted d valid
one_command causal laws half permitted chain other place d valid = one_some _
one_command causal laws half permitted beside other place d valid = one_some _
one_command causal laws half permitted lower other place d valid = one_some _
one_command causal laws half permitted trace other place d valid = absurd (other refl)
one_command causal laws half permitted least other place d valid =
    let g = source_graph half d in
    one_unless (source_limit d) (IsLeastDue half g)
    (one_unless (size_limit g) (IsBoundFoundDue half g) (one_bound_found half g))

pub one_due : CausalLaws → FormLaws → AreValid → (asked : Asked) (text : List ℕ) →
    (asked ≡ trace → ⊥) → IsOne (IsDue asked text)
one_due causal laws are_valid asked text other =
    one_unless (too_long text) (IsDueIn half asked text)
    (one_where (answered (first_in_text half kinds text)) (IsDueSpelled half asked text)
    (λ none.
    let clean = none_answered (first_in_text half kinds text) none in
    one_spelled (spelled half text) (IsDocument half)
    ((command_of asked).IsDue half (first_place text))
    (are_valid half (half_permitted text) kinds text clean)
    (λ d valid.
    one_command causal laws half (half_permitted text) asked other (first_place text) d valid)))
  where
    half : ℕ
    half = half_of text

    kinds : takes.Takes
    kinds = (command_of asked).takes
