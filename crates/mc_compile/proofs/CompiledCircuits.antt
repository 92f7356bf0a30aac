-- The laws of the passes one after the other.
use Rattle.std.proofs.Common.{◌≡◌, ℕ, ◌<◌, ◌≤◌, Bool, List, sym, ◌∙◌, ap, arith}
use mathlib.Core.Path.{subst}
use Rattle.mc_model.specs.Laws.{ChosenFlowsAreFlows}
use Rattle.mc_model.specs.Phase.{PhaseOps, PhaseLaws, turn}
use Rattle.mc_model.specs.Bits.{Bits, all_zero}
use Rattle.mc_model.specs.Ring.{Element, ring}
use Rattle.mc_model.specs.Pattern.{Circuit, Pattern}
use Rattle.mc_model.specs.Amplitude.{zero_branch, circuit_table}
use Rattle.mc_model.specs.Alike.{AlikeBranches}
use Rattle.mc_model.specs.Valid.{IsValidCircuit}
use Rattle.mc_model.specs.Translation.{translation, qubit_count}
use Rattle.mc_model.specs.StandardForm.{standard_form}
use Rattle.mc_model.specs.Graph.{OpenGraph}
use Rattle.mc_model.specs.Choice.{IsChosenFlow}
use Rattle.mc_model.specs.Made.{flow_pattern}
use Rattle.mc_model.proofs.AlikeLemmas.{branches_back, branches_on}
use Rattle.mc_model.proofs.RingLemmas.{ring_laws}
use Rattle.mc_translate.specs.Laws.{TranslationKeepsTable, TranslationScale, TranslationsAreValid}
use Rattle.mc_translate.specs.Laws.{TranslationsHaveNoConstants}
use Rattle.mc_graph.specs.Laws.{GraphsKeepZeroBranch, GraphsWithoutConstants}
use Rattle.mc_make.specs.Laws.{ChosenFlowsAreLeastDeep, FlowPatternsAreMade}
use Rattle.mc_make.specs.Laws.{FlowPatternsHaveNoConstants, ChosenPatternsHaveNoSecondSignals}
use Rattle.mc_make.specs.Laws.{DependenceWithinLayers}
use Rattle.mc_rules.specs.Laws.{StandardIsStandard, StandardIsAlike, StandardKeepsZeroBranch}
use Rattle.mc_shift.specs.Laws.{NoSecondSignalsNoShift}
use Rattle.mc_compile.specs.Laws.{HasTable, IsCompiled, circuit_graph, CompiledCircuits}

-- what the passes say of what they make
pub record PassLaws : Type 0 where
  pub translation_valid : TranslationsAreValid
  pub translation_free : TranslationsHaveNoConstants
  pub translation_table : TranslationKeepsTable
  pub translation_scale : TranslationScale
  pub graph_kept : GraphsKeepZeroBranch
  pub graph_plain : GraphsWithoutConstants
  pub chosen_flow : ChosenFlowsAreFlows
  pub chosen_least : ChosenFlowsAreLeastDeep
  pub made : FlowPatternsAreMade
  pub made_free : FlowPatternsHaveNoConstants
  pub made_no_second : ChosenPatternsHaveNoSecondSignals
  pub made_shallow : DependenceWithinLayers
  pub standard_valid : StandardIsStandard
  pub standard_alike : StandardIsAlike
  pub standard_zero : StandardKeepsZeroBranch
  pub unshifted : NoSecondSignalsNoShift

-- a branch that is alike with one whose map is known
table_of : (half : ℕ) (p q : Pattern) (o : Bits) (c : Circuit) →
    AlikeBranches (ring half) q o p all_zero →
    ((y : List Bool) (b : Bits) →
    zero_branch (ring half) p y b ≡ circuit_table (ring half) c y b) →
    HasTable half q o c
table_of half p q o c alike zero = record {
  phase = alike.phase;
  within = alike.within;
  same = λ y b.
      alike.same y b
      ∙ ap (λ (e : Element half). turn (ring half) alike.phase e) (zero y b);
}

-- the standard form of the pattern of the chosen flow
standard_compiled : PassLaws → (half : ℕ) → 0 < half → (c : Circuit) → IsValidCircuit c →
    qubit_count c ≤ 256 → (sets : ℕ → Bits) (layer : ℕ → ℕ) →
    IsChosenFlow (circuit_graph half c) sets layer →
    IsCompiled half c (standard_form (flow_pattern (circuit_graph half c) sets layer))
standard_compiled laws half positive c valid few sets layer chosen =
    let ops : PhaseOps (Element half) = ring half in
    let rules : PhaseLaws ops = ring_laws half positive in
    let t : Pattern = translation half c in
    let g : OpenGraph = circuit_graph half c in
    let p : Pattern = flow_pattern g sets layer in
    let s : Pattern = standard_form p in
    let t_valid = laws.translation_valid half c valid few in
    let free = laws.translation_free half c in
    let table = laws.translation_table half positive c valid all_zero in
    let is_open = (laws.graph_kept half positive t t_valid).graph in
    let made =
    laws.made half positive t t_valid sets layer (laws.chosen_flow g sets layer chosen) in
    let made_free = laws.made_free g sets layer (laws.graph_plain half t free).uncorrected in
    let standard = laws.standard_valid p made.valid in
    record {
      valid = standard.valid;
      standard = standard.own;
      no_second = laws.made_no_second g sets layer is_open chosen;
      alike = λ o.
          table_of half t s o c
          (branches_on ops rules s p t o o all_zero
          (branches_back ops rules p s o o (laws.standard_alike half positive p made.valid o))
          (made.alike o))
          table;
      zero = λ y b.
          laws.standard_zero half positive p made.valid made_free y b
          ∙ made.exact free y b
          ∙ table y b;
      scale = standard.scale ∙ made.scale ∙ laws.translation_scale half c;
      shallow = λ sets' layer' flow' d depth.
          let within = laws.made_shallow g sets layer is_open chosen d depth in
          let least = laws.chosen_least g sets layer chosen sets' layer' flow' in
          omega arith;
    }

pub compiled : PassLaws → CompiledCircuits
compiled laws half positive c valid few sets layer chosen q h =
    let s = standard_compiled laws half positive c valid few sets layer chosen in
    let p : Pattern = standard_form (flow_pattern (circuit_graph half c) sets layer) in
    subst (IsCompiled half c) (sym ((laws.unshifted p s.valid s.no_second).only q h)) s
