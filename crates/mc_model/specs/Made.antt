-- The pattern that is made from a flow, and the circuit that is extracted by a causal flow.
use Rattle.std.specs.Prelude.{ℕ, zero, suc, cond, not, ◌&&◌, ◌||◌, nat_eq, nat_lt, List, [], ◌∷◌}
use Rattle.std.specs.Prelude.{◌++◌, map, filter, flat_map, position, find, unwrap_or, is_none}
use Rattle.std.specs.Prelude.{slice_get, Option}
use Rattle.mc_model.specs.Numbers.{numbers_from, numbers_where, is_member}
use Rattle.mc_model.specs.Bits.{Bits}
use Rattle.mc_model.specs.Phase.{negated}
use Rattle.mc_model.specs.Signals.{signal_of}
use Rattle.mc_model.specs.Pattern.{Command, FixX, FixZ, Pattern, Gate, J, CZ, Circuit}
use Rattle.mc_model.specs.Graph.{OpenGraph, size, is_output, base_angle, odd_neighbourhood, joins}
use Rattle.mc_model.specs.Graph.{graph_state, bare_measurement, fixed_at, where_fixed}
use Rattle.mc_model.specs.Graph.{fixed_corrections}
use Rattle.mc_model.specs.Flow.{depth_of}

-- the vertices that are no outputs, from the layer `k` down, and within a layer by rising number
unfoldable pub measuring_order : OpenGraph → (ℕ → ℕ) → ℕ → List ℕ
measuring_order g layer zero = []
measuring_order g layer (suc k) =
    numbers_where (λ v. not (is_output g v) && nat_eq (layer v) (suc k)) (size g)
    ++ measuring_order g layer k

-- the measurement of a vertex, and the corrections that its outcome calls for
unfoldable pub corrected_measurement : OpenGraph → Bits → ℕ → List Command
corrected_measurement g s i =
    bare_measurement g i
    ∷ (map (λ k. FixX k (signal_of i)) (numbers_where s (size g))
    ++ map (λ k. FixZ k (signal_of i))
    (numbers_where (λ k. odd_neighbourhood g s k && not (nat_eq k i)) (size g)))

unfoldable pub flow_pattern : OpenGraph → (ℕ → Bits) → (ℕ → ℕ) → Pattern
flow_pattern g sets layer = record {
  names = g.names;
  inputs = g.inputs;
  outputs = g.outputs;
  commands =
      graph_state g
      ++ (flat_map (λ i. corrected_measurement g (sets i) i)
      (measuring_order g layer (depth_of g layer))
      ++ fixed_corrections g);
}

-- ---- extraction: a wire is a chain of vertices, each the next of the one before it

-- the vertex whose next is `v`
abbrev pub last_before : OpenGraph → (ℕ → ℕ) → ℕ → Option ℕ
last_before g next v =
    find (λ u. not (is_output g u) && nat_eq (next u) v) (numbers_from 0 (size g))

-- the vertices that begin a wire
abbrev pub is_first : OpenGraph → (ℕ → ℕ) → Bits
is_first g next v = is_none (last_before g next v)

-- up to `n` vertices back along the chain
unfoldable pub chain_start : OpenGraph → (ℕ → ℕ) → ℕ → ℕ → ℕ
chain_start g next zero v = v
chain_start g next (suc n) v = chain_start g next n (unwrap_or (last_before g next v) v)

-- the first vertices by rising number, and the wire of a vertex
abbrev pub first_vertices : OpenGraph → (ℕ → ℕ) → List ℕ
first_vertices g next = numbers_where (is_first g next) (size g)

abbrev pub wire_of : OpenGraph → (ℕ → ℕ) → ℕ → ℕ
wire_of g next v =
    unwrap_or (position (nat_eq (chain_start g next (size g) v)) (first_vertices g next)) 0

-- whether a vertex is the current one of its wire, when the vertices `done` were passed
abbrev pub is_current : OpenGraph → (ℕ → ℕ) → List ℕ → Bits
is_current g next done v =
    not (is_member done v)
    && (is_first g next v || is_member done (unwrap_or (last_before g next v) v))

-- the CZ of the wires of two vertices, that of the lower-numbered vertex first
abbrev pub cz_gate : OpenGraph → (ℕ → ℕ) → ℕ → ℕ → Gate
cz_gate g next v w =
    cond (nat_lt w v) (CZ (wire_of g next w) (wire_of g next v))
    (CZ (wire_of g next v) (wire_of g next w))

-- `J` on the wire of each vertex in order, and then the edges between its next and the vertices
-- that are current
unfoldable pub extracted_gates : OpenGraph → (ℕ → ℕ) → ℕ → List ℕ → List ℕ → List Gate
extracted_gates g next half done [] = []
extracted_gates g next half done (i ∷ is) =
    J (wire_of g next i) (negated half (unwrap_or (base_angle g i) 0))
    ∷ (map (cz_gate g next (next i))
    (numbers_where (λ k. joins g.edges (next i) k && is_current g next (i ∷ done) k) (size g))
    ++ extracted_gates g next half (i ∷ done) is)

-- the fixed corrections of a vertex as gates on its wire, two for each, and those of all by rising
-- number
abbrev pub gates_at : ℕ → OpenGraph → (ℕ → ℕ) → ℕ → List Gate
gates_at half g next v =
    let w = wire_of g next v in
    where_fixed (fixed_at g v) (J w 0 ∷ J w half ∷ []) (J w half ∷ J w 0 ∷ [])

unfoldable pub fixed_gates : ℕ → OpenGraph → (ℕ → ℕ) → List Gate
fixed_gates half g next = flat_map (gates_at half g next) (numbers_from 0 (size g))

-- the edges between first vertices, then those gates, and the fixed corrections
unfoldable pub extracted_circuit : ℕ → OpenGraph → (ℕ → ℕ) → (ℕ → ℕ) → Circuit
extracted_circuit half g next layer = record {
  names = map (λ v. unwrap_or (slice_get g.names v) []) (first_vertices g next);
  inputs = g.inputs;
  outputs = map (wire_of g next) g.outputs;
  gates =
      map (λ e. cz_gate g next e.one e.other)
      (filter (λ e. is_first g next e.one && is_first g next e.other) g.edges)
      ++ (extracted_gates g next half [] (measuring_order g layer (depth_of g layer))
      ++ fixed_gates half g next);
}
