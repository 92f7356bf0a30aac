-- What is made from a pattern by a flow of its graph.
use Rattle.std.proofs.Common.{ℕ, ◌∙◌, ap}
use Rattle.mc_model.specs.Phase.{PhaseOps, PhaseLaws, turn}
use Rattle.mc_model.specs.Bits.{all_zero}
use Rattle.mc_model.specs.Ring.{Element, ring}
use Rattle.mc_model.specs.Pattern.{Pattern}
use Rattle.mc_model.specs.Amplitude.{zero_branch}
use Rattle.mc_model.specs.Alike.{AlikeBranches}
use Rattle.mc_model.specs.Graph.{OpenGraph, graph_of}
use Rattle.mc_model.specs.Made.{flow_pattern}
use Rattle.mc_model.proofs.RingLemmas.{ring_laws}
use Rattle.mc_model.proofs.AlikeLemmas.{branches_on}
use Rattle.mc_graph.specs.Laws.{GraphsKeepZeroBranch}
use Rattle.mc_make.specs.Laws.{FlowPatternsAreMade}
use Rattle.mc_make.proofs.Determinism.{flow_branches}
use Rattle.mc_make.proofs.ZeroBranch.{zero_branches}
use Rattle.mc_make.proofs.ValidPatterns.{flow_patterns_valid}
use Rattle.mc_make.proofs.FlowScale.{flow_scale}

pub made_from : GraphsKeepZeroBranch → FlowPatternsAreMade
unfolding turn
made_from keeps half positive p v sets layer flow =
    let ops : PhaseOps (Element half) = ring half in
    let laws : PhaseLaws ops = ring_laws half positive in
    let g : OpenGraph = graph_of half p in
    let q : Pattern = flow_pattern g sets layer in
    let kept = keeps half positive p v in
    let same = zero_branches ops laws g kept.graph sets layer flow in
    let zero : AlikeBranches ops q all_zero p all_zero = record {
      phase = kept.alike.phase;
      within = kept.alike.within;
      same = λ y b. same y b ∙ kept.alike.same y b;
    } in
    record {
      valid = flow_patterns_valid g sets layer kept.graph flow;
      scale = flow_scale g sets layer flow ∙ kept.scale;
      alike = λ o.
          branches_on ops laws q q p o all_zero all_zero
          (flow_branches ops laws g kept.graph sets layer flow o) zero;
      exact = λ none y b.
          zero.same y b ∙ ap (λ (k : ℕ). turn ops k (zero_branch ops p y b)) (kept.exact none);
    }
