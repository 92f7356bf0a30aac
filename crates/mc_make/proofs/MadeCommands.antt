-- The commands of a flow's pattern, as loops append them, and the pattern that they make.
use Rattle.std.proofs.Common.{◌≡◌, ℕ, zero, suc, ◌+◌, ◌<◌, ◌≤◌, ◌&&◌}
use Rattle.std.proofs.Common.{not, map, List, [], ◌∷◌, ◌++◌, length, take, sym, ◌∙◌, ap}
use Rattle.std.proofs.Common.{append_assoc, append-nil, arith}
use Rattle.std.specs.Prelude.{nat_eq, flat_map, slice_index}
use Rattle.std.proofs.lemmas.List.{take_more}
use Rattle.std.proofs.lemmas.List.Concat.{flat_map-append}
use mathlib.Core.Path.{subst}
use Rattle.mc_model.specs.Bits.{Bits}
use Rattle.mc_model.specs.Limits.{most_commands}
use Rattle.mc_model.specs.Numbers.{numbers_where}
use Rattle.mc_model.specs.Signals.{signal_of}
use Rattle.mc_model.specs.Pattern.{Command, FixX, FixZ, Pattern}
use Rattle.mc_model.specs.Valid.{IsValidPattern}
use Rattle.mc_model.specs.Graph.{OpenGraph, size, odd_neighbourhood, graph_state}
use Rattle.mc_model.specs.Graph.{fixed_corrections}
use Rattle.mc_model.specs.Flow.{IsFlow, depth_of}
use Rattle.mc_model.specs.Made.{measuring_order, corrected_measurement, flow_pattern}
use Rattle.mc_pattern.specs.Typed.{AllTyped}
use Rattle.mc_pattern.specs.Patterns.{IsPattern}
use Rattle.mc_graph.specs.Graphs.{IsGraph}
use Rattle.mc_graph.specs.Patterns.{pattern_with}
use Rattle.mc_graph.proofs.TypedCommands.{typed-append, typed-state, typed-fixed, base_low}
use Rattle.mc_make.proofs.MeasuringOrder.{IsToMeasure, IsOrder, measured_in_order}
use Rattle.mc_make.proofs.ValidPatterns.{flow_patterns_valid}
use Rattle.mc_make.proofs.FlowSizes.{flow_pattern_fits}

-- ---- lists

pub behind_one : (before : List Command) (one : Command) (xs zs : List Command)
    {first second third : List Command} → first ≡ before ++ (one ∷ []) → second ≡ first ++ xs →
    third ≡ second ++ zs → third ≡ before ++ (one ∷ (xs ++ zs))
behind_one before one xs zs e f h =
    h ∙ ap (λ (cs : List Command). cs ++ zs) (f ∙ ap (λ (cs : List Command). cs ++ xs) e)
    ∙ append_assoc (before ++ (one ∷ [])) xs zs
    ∙ append_assoc before (one ∷ []) (xs ++ zs)

pub listed_more : (f : ℕ → List Command) (vs : List ℕ) (i : ℕ) (before cs : List Command)
    {ds : List Command} → i < length vs → cs ≡ before ++ flat_map f (take i vs) →
    ds ≡ cs ++ f (slice_index vs i) → ds ≡ before ++ flat_map f (take (i + 1) vs)
listed_more f vs i before cs {ds} l e h =
    let v : ℕ = slice_index vs i in
    let old : List ℕ = take i vs in
    h ∙ ap (λ (xs : List Command). xs ++ f v) e
    ∙ append_assoc before (flat_map f old) (f v)
    ∙ ap (λ (xs : List Command). before ++ xs) (sym (ap (flat_map f) (take_more vs i 0 l)
    ∙ flat_map-append f old (v ∷ [])
    ∙ ap (λ (xs : List Command). flat_map f old ++ xs) (append-nil (f v))))

-- ---- the vertices of the order

in_order : (g : OpenGraph) (layer : ℕ → ℕ) (vs : List ℕ) (i : ℕ) → IsOrder g layer vs →
    i < length vs → IsToMeasure g (slice_index vs i)
in_order g layer [] i order l = absurd (omega arith)
in_order g layer (w ∷ ws) zero order l = order.0
in_order g layer (w ∷ ws) (suc i) order l = in_order g layer ws i order.2 (omega arith)

pub to_measure : (g : OpenGraph) (layer : ℕ → ℕ) (vs : List ℕ) (i : ℕ) →
    vs ≡ measuring_order g layer (depth_of g layer) → i < length vs →
    IsToMeasure g (slice_index vs i)
to_measure g layer vs i e l =
    in_order g layer vs i
    (subst (IsOrder g layer) (sym e) (measured_in_order g layer (depth_of g layer))) l

-- ---- the pattern

typed-xs : (half q : ℕ) (vs : List ℕ) → AllTyped half (map (λ k. FixX k (signal_of q)) vs)
typed-xs half q [] = tt
typed-xs half q (v ∷ vs) = ((tt, tt), typed-xs half q vs)

typed-zs : (half q : ℕ) (vs : List ℕ) → AllTyped half (map (λ k. FixZ k (signal_of q)) vs)
typed-zs half q [] = tt
typed-zs half q (v ∷ vs) = ((tt, tt), typed-zs half q vs)

typed-corrected : (half : ℕ) (g : OpenGraph) (sets : ℕ → Bits) (vs : List ℕ) → IsGraph half g →
    AllTyped half (flat_map (λ i. corrected_measurement g (sets i) i) vs)
unfolding corrected_measurement
typed-corrected half g sets [] graph = tt
typed-corrected half g sets (i ∷ is) graph =
    let n : ℕ = size g in
    let odds : Bits = λ k. odd_neighbourhood g (sets i) k && not (nat_eq k i) in
    let xs : List Command = map (λ k. FixX k (signal_of i)) (numbers_where (sets i) n) in
    let zs : List Command = map (λ k. FixZ k (signal_of i)) (numbers_where odds n) in
    let rest : List Command = flat_map (λ j. corrected_measurement g (sets j) j) is in (
      (base_low half g i graph, tt, tt),
      typed-append half (xs ++ zs) rest
          (typed-append half xs zs (typed-xs half i (numbers_where (sets i) n))
          (typed-zs half i (numbers_where odds n)))
          (typed-corrected half g sets is graph),
    )

abbrev pub corrected_state : OpenGraph → (ℕ → Bits) → (ℕ → ℕ) → List Command
corrected_state g sets layer =
    graph_state g
    ++ flat_map (λ i. corrected_measurement g (sets i) i)
    (measuring_order g layer (depth_of g layer))

pub flow_is : (g : OpenGraph) (sets : ℕ → Bits) (layer : ℕ → ℕ) →
    pattern_with g (corrected_state g sets layer) ≡ flow_pattern g sets layer
unfolding flow_pattern
flow_is g sets layer =
    let made : List Command =
    flat_map (λ i. corrected_measurement g (sets i) i)
    (measuring_order g layer (depth_of g layer)) in
    ap (λ (cs : List Command). record {
      names = g.names;
      inputs = g.inputs;
      outputs = g.outputs;
      commands = cs;
    }) (append_assoc (graph_state g) made (fixed_corrections g))

pub flow_is_pattern : (half : ℕ) (g : OpenGraph) (sets : ℕ → Bits) (layer : ℕ → ℕ) →
    IsGraph half g → IsFlow g sets layer →
    IsPattern half (pattern_with g (corrected_state g sets layer))
flow_is_pattern half g sets layer graph flow =
    let valid = graph.open_graph in
    let made : List Command =
    flat_map (λ i. corrected_measurement g (sets i) i)
    (measuring_order g layer (depth_of g layer)) in
    record {
      permitted = graph.permitted;
      valid = subst IsValidPattern (sym (flow_is g sets layer))
          (flow_patterns_valid g sets layer valid flow);
      few = subst (λ (p : Pattern). length p.commands ≤ most_commands)
          (sym (flow_is g sets layer)) (flow_pattern_fits g sets layer valid);
      typed =
          typed-append half (corrected_state g sets layer) (fixed_corrections g)
          (typed-append half (graph_state g) made (typed-state half g)
          (typed-corrected half g sets (measuring_order g layer (depth_of g layer)) graph))
          (typed-fixed half g);
    }
