-- The pattern of a graph prepares and measures what the graph's source does.
use Rattle.std.proofs.Common.{◌≡◌, ℕ, ◌+◌, ◌-◌, not, length, List, [], sym, ◌∙◌, ap, arith}
use Rattle.mc_model.specs.Numbers.{numbers_where}
use Rattle.mc_model.specs.Pattern.{Command, Pattern}
use Rattle.mc_model.specs.Amplitude.{pattern_scale}
use Rattle.mc_model.specs.Valid.{measured, IsValidPattern}
use Rattle.mc_model.specs.Graph.{OpenGraph, is_output, graph_of, zero_pattern}
use Rattle.mc_model.proofs.AnyOrder.{same_length}
use Rattle.mc_model.proofs.Scales.{zero_scale}
use Rattle.mc_model.proofs.ValidInPlace.{InPlace, valid_in_place}
use Rattle.mc_graph.proofs.MeasuredLists.{measured_list, measured_once, halvings-listed}
use Rattle.mc_graph.proofs.PatternGraphs.{measured_vertices}

pub graph_scale : (half : ℕ) (p : Pattern) → IsValidPattern p →
    pattern_scale (zero_pattern (graph_of half p)) ≡ pattern_scale p
unfolding graph_of
graph_scale half p v =
    let n : ℕ = length p.names in
    let cs : List Command = p.commands in
    let g : OpenGraph = graph_of half p in
    let unlisted : List ℕ = numbers_where (λ q. not (is_output g q)) n in
    let place : InPlace n cs = valid_in_place p.inputs n [] cs v.commands
    (let e = v.qubits in omega arith) in
    let lengths : length (measured_list cs) ≡ length unlisted =
    same_length n (measured cs) (measured_list cs) (measured_once n cs place)
    ∙ ap length (sym (measured_vertices half p v)) in
    let scale : pattern_scale (zero_pattern g) ≡ (n - p.inputs) + length unlisted = zero_scale g in
    let qubits = v.qubits in
    let listed = halvings-listed cs in
    omega arith
