-- The graph of a pattern keeps its zero branch.
use Rattle.std.proofs.Common.{◌≡◌, ℕ, ◌<◌, Bool, false, List, refl, sym, ◌∙◌, ap, arith}
use Rattle.std.specs.List.{list_any}
use Rattle.std.proofs.lemmas.Bool.{cases_Bool, true≢false}
use mathlib.Core.Logic.{inl, inr}
use Rattle.mc_model.specs.Phase.{PhaseOps, turn}
use Rattle.mc_model.specs.Bits.{Bits, all_zero}
use Rattle.mc_model.specs.Ring.{Element, ring}
use Rattle.mc_model.specs.Pattern.{Pattern, has_constant}
use Rattle.mc_model.specs.Amplitude.{Amps, amp, branch_map, zero_branch, placed}
use Rattle.mc_model.specs.Alike.{AlikeBranches}
use Rattle.mc_model.specs.Valid.{IsValidPattern}
use Rattle.mc_model.specs.StandardForm.{standard_form}
use Rattle.mc_model.specs.Graph.{graph_of, zero_pattern}
use Rattle.mc_model.proofs.RingLemmas.{ring_laws}
use Rattle.mc_model.proofs.AlikeLemmas.{branches_back}
use Rattle.mc_rules.specs.Laws.{StandardIsAlike, StandardKeepsZeroBranch}
use Rattle.mc_graph.specs.Laws.{GraphsKeepZeroBranch}
use Rattle.mc_graph.proofs.PatternGraphs.{graph_is_open}
use Rattle.mc_graph.proofs.GraphScale.{graph_scale}
use Rattle.mc_graph.proofs.ZeroAmplitudes.{zero_amplitudes}

-- at outcomes 0 the pattern of the graph does what the standard form does
as_standard : (half : ℕ) → 0 < half → (p : Pattern) → IsValidPattern p → (y : List Bool) (b : Bits) →
    zero_branch (ring half) (zero_pattern (graph_of half p)) y b
    ≡ zero_branch (ring half) (standard_form p) y b
unfolding branch_map amp zero_pattern graph_of standard_form
as_standard half positive p v y b =
    ap (λ (f : Amps (Element half)). f (placed p.outputs y))
    (zero_amplitudes (ring half) (ring_laws half positive) p v b)

zero_branch_alike : StandardIsAlike → (half : ℕ) → 0 < half → (p : Pattern) → IsValidPattern p →
    AlikeBranches (ring half) (zero_pattern (graph_of half p)) all_zero p all_zero
zero_branch_alike alike half positive p v =
    let ops : PhaseOps (Element half) = ring half in
    let back : AlikeBranches ops (standard_form p) all_zero p all_zero =
    branches_back ops (ring_laws half positive) p (standard_form p) all_zero all_zero
    (alike half positive p v all_zero) in
    record {
      phase = back.phase;
      within = back.within;
      same = λ y b. as_standard half positive p v y b ∙ back.same y b;
    }

-- one power of `w`, which is 1 where no signal has the constant
kept_branch : StandardIsAlike → StandardKeepsZeroBranch → (half : ℕ) → 0 < half → (p : Pattern) →
    IsValidPattern p →
    (alike : AlikeBranches (ring half) (zero_pattern (graph_of half p)) all_zero p all_zero)
    × (list_any has_constant p.commands ≡ false → alike.phase ≡ 0)
unfolding turn
kept_branch alike zero half positive p v = elim (cases_Bool (list_any has_constant p.commands)) [
  | inl some ↦ (
    zero_branch_alike alike half positive p v,
    λ none. absurd (true≢false (sym some ∙ none)),
  )
  | inr none ↦ (
    record {
      phase = 0;
      within = omega arith;
      same = λ y b. as_standard half positive p v y b ∙ zero half positive p v none y b;
    },
    λ e. refl,
  )
]

pub graphs_keep : StandardIsAlike → StandardKeepsZeroBranch → GraphsKeepZeroBranch
graphs_keep alike zero half positive p v =
    let kept = kept_branch alike zero half positive p v in
    record {
      graph = graph_is_open half p v;
      scale = graph_scale half p v;
      alike = kept.0;
      exact = kept.1;
    }
