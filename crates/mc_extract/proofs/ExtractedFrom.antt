-- What is extracted from a pattern by a causal flow of its graph.
use Rattle.std.proofs.Common.{ℕ, List, length, ◌∙◌, ap}
use Rattle.mc_model.specs.Phase.{PhaseOps, PhaseLaws, doubled}
use Rattle.mc_model.specs.Ring.{Element, ring}
use Rattle.mc_model.specs.Pattern.{Command}
use Rattle.mc_model.specs.Amplitude.{zero_branch}
use Rattle.mc_model.specs.Graph.{OpenGraph, graph_of}
use Rattle.mc_model.proofs.PhaseLemmas.{doubled-turn}
use Rattle.mc_model.proofs.RingLemmas.{ring_laws}
use Rattle.mc_graph.specs.Laws.{GraphsKeepZeroBranch, GraphsWithoutConstants}
use Rattle.mc_extract.specs.Laws.{fixed_count, CircuitsAreExtracted}
use Rattle.mc_extract.proofs.Extraction.{extracted_keeps_table}
use Rattle.mc_extract.proofs.CircuitScale.{extracted_scale}
use Rattle.mc_extract.proofs.ValidCircuits.{extracted_valid}

pub extracted_from : GraphsKeepZeroBranch → GraphsWithoutConstants → CircuitsAreExtracted
unfolding graph_of
extracted_from keeps plain half positive p v next layer flow =
    let ops : PhaseOps (Element half) = ring half in
    let laws : PhaseLaws ops = ring_laws half positive in
    let g : OpenGraph = graph_of half p in
    let m : ℕ = fixed_count half p in
    let kept = keeps half positive p v in
    record {
      valid = extracted_valid g next layer kept.graph flow half;
      scale = extracted_scale g next layer kept.graph flow half;
      phase = kept.alike.phase;
      within = kept.alike.within;
      same = λ y b.
          extracted_keeps_table ops laws g kept.graph next layer flow y b
          ∙ ap (doubled ops m) (kept.alike.same y b)
          ∙ doubled-turn ops laws m kept.alike.phase (zero_branch ops p y b);
      exact = λ none. (
        kept.exact none,
        ap (λ (cs : List Command). length cs) (plain half p none).uncorrected,
      );
    }
