-- Measurements at outcomes 0 may be done in any order: the zero branch of a flow's pattern.
use Rattle.std.proofs.Common.{◌≡◌, ℕ, Bool, false, not, ◌++◌, List, [], ◌∷◌, map, refl, sym, ◌∙◌}
use Rattle.std.proofs.Common.{ap, append_assoc}
use mathlib.Core.Path.{fun_ext}
use Rattle.mc_model.specs.Phase.{PhaseOps, PhaseLaws, sign}
use Rattle.mc_model.specs.Bits.{◌⊻◌, Bits, all_zero}
use Rattle.mc_model.specs.Numbers.{numbers_where}
use Rattle.mc_model.specs.Pattern.{Command}
use Rattle.mc_model.specs.Amplitude.{Amps, after, start, amp, branch_map, zero_branch, placed}
use Rattle.mc_model.specs.Graph.{OpenGraph, size, is_output, IsOpenGraph, entanglings, graph_state}
use Rattle.mc_model.specs.Graph.{bare_measurement, fixed_corrections, zero_pattern}
use Rattle.mc_model.specs.Flow.{IsFlow, depth_of}
use Rattle.mc_model.specs.Made.{measuring_order, corrected_measurement, flow_pattern}
use Rattle.mc_model.proofs.BitLemmas.{xor_false}
use Rattle.mc_model.proofs.AmplitudeLemmas.{after-append}
use Rattle.mc_model.proofs.FixedGates.{unfixed_commands}
use Rattle.mc_model.proofs.AnyOrder.{commands_in_any_order}
use Rattle.mc_model.proofs.OddSums.{and_false}
use Rattle.mc_make.proofs.GraphStates.{flipped, set_sum}
use Rattle.mc_make.proofs.MeasuringOrder.{IsOrder, measured_in_order}
use Rattle.mc_make.proofs.OrderLists.{order_falls}
use Rattle.mc_make.proofs.Corrected.{fixed, bare, corrected_is}
use Rattle.mc_make.proofs.Determinism.{corrected, graph_state-first}

module _ {E : Type 0} (ops : PhaseOps E) (laws : PhaseLaws ops) where
  -- the corrections of outcome 0 do nothing
  fixed_not : (g : OpenGraph) (s : Bits) (f : Amps E) → fixed ops g s false f ≡ f
  unfolding fixed
  fixed_not g s f = fun_ext λ x.
      ap (λ (b : Bool). sign ops b (f (flipped s false x)))
      (and_false (set_sum (size g) _ x))
      ∙ ap f (fun_ext λ k. ap (λ (b : Bool). x k ⊻ b) (and_false (s k)) ∙ xor_false (x k))

  -- the list measured at outcomes 0
  measure : OpenGraph → List ℕ → Amps E → Amps E
  measure g qs = after ops all_zero (map (bare_measurement g) qs)

  measure-first : (g : OpenGraph) (q : ℕ) (qs : List ℕ) (f : Amps E) →
      measure g (q ∷ qs) f ≡ measure g qs (bare ops g q f)
  unfolding measure after bare
  measure-first g q qs f = refl

  corrected-zero : (g : OpenGraph) (sets : ℕ → Bits) (layer : ℕ → ℕ) (flow : IsFlow g sets layer)
      (is : List ℕ) (f : Amps E) → IsOrder g layer is →
      after ops all_zero (corrected ops laws g sets is) f ≡ measure g is f
  unfolding corrected measure after
  corrected-zero g sets layer flow [] f order = refl
  corrected-zero g sets layer flow (i ∷ is) f order =
      let rest : List Command = corrected ops laws g sets is in
      let here = order.0 in
      after-append ops laws all_zero (corrected_measurement g (sets i) i) rest f
      ∙ ap (after ops all_zero rest) (fun_ext λ y.
      corrected_is ops laws all_zero g layer (sets i) i f y here.vertex
      (flow.corrects i here.vertex here.no_output)
      ∙ ap (λ (p : Amps E). bare ops g i p y) (fixed_not g (sets i) f))
      ∙ corrected-zero g sets layer flow is (bare ops g i f) order.2
      ∙ sym (measure-first g i is f)

  -- the vertices in the order of measuring, or by rising number
  measure_order : (g : OpenGraph) (sets : ℕ → Bits) (layer : ℕ → ℕ) → IsFlow g sets layer →
      (f : Amps E) →
      measure g (measuring_order g layer (depth_of g layer)) f
      ≡ measure g (numbers_where (λ v. not (is_output g v)) (size g)) f
  unfolding measure
  measure_order g sets layer flow f =
      commands_in_any_order ops laws all_zero (bare_measurement g)
      (λ i j ne e. ne (sym e)) (size g) (λ v. not (is_output g v))
      (measuring_order g layer (depth_of g layer)) f (order_falls g sets layer flow).each_once

  -- the graph's pattern before its fixed corrections, in the order of a flow
  pub unfixed_in_order : (g : OpenGraph) (sets : ℕ → Bits) (layer : ℕ → ℕ) →
      IsFlow g sets layer → (b : Bits) →
      after ops all_zero (unfixed_commands g) (start ops g.inputs b)
      ≡ after ops all_zero
      (map (bare_measurement g) (measuring_order g layer (depth_of g layer)))
      (after ops all_zero (entanglings g.edges) (start ops g.inputs b))
  unfolding measure
  unfixed_in_order g sets layer flow b =
      let rising : List ℕ = numbers_where (λ v. not (is_output g v)) (size g) in
      graph_state-first ops laws all_zero g (map (bare_measurement g) rising) b
      ∙ sym (measure_order g sets layer flow
      (after ops all_zero (entanglings g.edges) (start ops g.inputs b)))

  pub zero_branches : (g : OpenGraph) → IsOpenGraph g → (sets : ℕ → Bits) (layer : ℕ → ℕ) →
      IsFlow g sets layer → (y : List Bool) (b : Bits) →
      zero_branch ops (flow_pattern g sets layer) y b ≡ zero_branch ops (zero_pattern g) y b
  unfolding branch_map amp flow_pattern zero_pattern corrected measure
  zero_branches g valid sets layer flow y b =
      let order : List ℕ = measuring_order g layer (depth_of g layer) in
      let rising : List ℕ = numbers_where (λ v. not (is_output g v)) (size g) in
      let first : Amps E = start ops g.inputs b in
      let state : Amps E = after ops all_zero (entanglings g.edges) first in
      let fixes : List Command = fixed_corrections g in
      ap (λ (f : Amps E). f (placed g.outputs y))
      (graph_state-first ops laws all_zero g (corrected ops laws g sets order ++ fixes) b
      ∙ after-append ops laws all_zero (corrected ops laws g sets order) fixes state
      ∙ ap (after ops all_zero fixes)
      (corrected-zero g sets layer flow order state (measured_in_order g layer (depth_of g layer))
      ∙ sym (unfixed_in_order g sets layer flow b))
      ∙ sym (after-append ops laws all_zero (unfixed_commands g) fixes first)
      ∙ ap (λ (cs : List Command). after ops all_zero cs first)
      (append_assoc (graph_state g) (map (bare_measurement g) rising) fixes))
