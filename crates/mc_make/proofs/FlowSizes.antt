-- A flow's pattern of at most 256 qubits has not too many commands.
use Rattle.std.proofs.Common.{ℕ, ◌+◌, ◌-◌, ◌*◌, ◌≤◌}
use Rattle.std.proofs.Common.{◌&&◌, not, List, [], ◌∷◌, ◌++◌, length, map, length-append}
use Rattle.std.proofs.Common.{arith}
use Rattle.std.specs.Prelude.{nat_eq, flat_map}
use Rattle.std.proofs.lemmas.List.{length-map}
use Rattle.std.proofs.lemmas.Nat.{mul-le}
use Rattle.mc_model.specs.Bits.{Bits}
use Rattle.mc_model.specs.Numbers.{numbers_from, numbers_where}
use Rattle.mc_model.specs.Signals.{signal_of}
use Rattle.mc_model.specs.Pattern.{Command, Ent, FixX, FixZ}
use Rattle.mc_model.specs.Translation.{preparations}
use Rattle.mc_model.specs.Graph.{OpenGraph, size, odd_neighbourhood}
use Rattle.mc_model.specs.Graph.{IsOpenGraph, entanglings, graph_state, bare_measurement}
use Rattle.mc_model.specs.Graph.{corrections_at, fixed_corrections}
use Rattle.mc_model.specs.Flow.{depth_of}
use Rattle.mc_model.specs.Made.{measuring_order, corrected_measurement, flow_pattern}
use Rattle.mc_model.proofs.PreparationLemmas.{length-preparations}
use Rattle.mc_model.proofs.NumberLists.{length-numbers_from}
use Rattle.mc_model.proofs.AnyOrder.{same_length}
use Rattle.mc_graph.proofs.GraphSizes.{few_where, next_row, few_edges, few_fixes}
use Rattle.mc_make.proofs.MeasuringOrder.{is_upto}
use Rattle.mc_make.proofs.OrderLists.{upto_once}

few_corrected : (g : OpenGraph) (sets : ℕ → Bits) (is : List ℕ) →
    length (flat_map (λ i. corrected_measurement g (sets i) i) is)
    ≤ length is * (2 * size g + 1)
unfolding corrected_measurement
few_corrected g sets [] = omega arith
few_corrected g sets (i ∷ is) =
    let n : ℕ = size g in
    let odds : Bits = λ k. odd_neighbourhood g (sets i) k && not (nat_eq k i) in
    let xs : List Command = map (λ k. FixX k (signal_of i)) (numbers_where (sets i) n) in
    let zs : List Command = map (λ k. FixZ k (signal_of i)) (numbers_where odds n) in
    let here : List Command = bare_measurement g i ∷ (xs ++ zs) in
    let rest : List Command = flat_map (λ j. corrected_measurement g (sets j) j) is in
    let all = length-append here rest in
    let fixes = length-append xs zs in
    let few_x = few_where (sets i) n in
    let few_z = few_where odds n in
    let long_x = length-map (numbers_where (sets i) n) (λ k. FixX k (signal_of i)) in
    let long_z = length-map (numbers_where odds n) (λ k. FixZ k (signal_of i)) in
    let old = few_corrected g sets is in
    let next = next_row (length is) (2 * n + 1) in
    omega arith

pub flow_pattern_fits : (g : OpenGraph) (sets : ℕ → Bits) (layer : ℕ → ℕ) → IsOpenGraph g →
    length (flow_pattern g sets layer).commands ≤ 262144
unfolding flow_pattern fixed_corrections
flow_pattern_fits g sets layer valid =
    let n : ℕ = size g in
    let few = valid.names.few in
    let order : List ℕ = measuring_order g layer (depth_of g layer) in
    let early : List Command = preparations g.inputs (n - g.inputs) in
    let fixed : List Command = flat_map (λ i. corrected_measurement g (sets i) i) order in
    let fixes : List Command = flat_map (corrections_at g) (numbers_from 0 n) in
    let all = length-append (graph_state g) (fixed ++ fixes) in
    let behind = length-append fixed fixes in
    let state = length-append early (entanglings g.edges) in
    let one = length-preparations g.inputs (n - g.inputs) in
    let two = length-map g.edges (λ e. Ent e.one e.other) in
    let edges = few_edges n g.edges valid.edges in
    let square = mul-le n n 256 256 few few in
    let three = few_corrected g sets order in
    let last = few_fixes g (numbers_from 0 n) in
    let numbers = length-numbers_from 0 n in
    let long : length order ≤ 256 =
    (let once = upto_once g layer (depth_of g layer) in
    let same = same_length n (is_upto g layer (depth_of g layer)) order once in
    let within = few_where (is_upto g layer (depth_of g layer)) n in omega arith) in
    let wide : 2 * n + 1 ≤ 513 = omega arith in
    let block = mul-le (length order) (2 * n + 1) 256 513 long wide in
    omega arith
