-- Gates that are added to a circuit, by lists of wires and of current vertices.
use Rattle.std.specs.Prelude.{◌≡◌, ℕ, ◌+◌, Bool, false, cond, ◌&&◌, nat_lt, nat_le, List, []}
use Rattle.std.specs.Prelude.{◌∷◌, ◌++◌, map, filter, length, slice_index_or, slice_get, unwrap_or}
use Rattle.mc_model.specs.Names.{Name}
use Rattle.mc_model.specs.Numbers.{numbers_from}
use Rattle.mc_model.specs.Bits.{Bits}
use Rattle.mc_model.specs.Pattern.{Gate, J, CZ, Circuit}
use Rattle.mc_model.specs.Graph.{OpenGraph, size, fixed_at, where_fixed}
use Rattle.mc_model.specs.Flow.{IsCausalFlow, depth_of}
use Rattle.mc_model.specs.Made.{measuring_order, is_first, wire_of, cz_gate, extracted_gates}
use Rattle.mc_model.specs.Made.{fixed_gates, first_vertices}
use Rattle.mc_graph.specs.Neighbours.{neighbours}
use Rattle.mc_extract.specs.Chains.{number_at}

abbrev pub name_at : OpenGraph → ℕ → Name
name_at g v = unwrap_or (slice_get g.names v) []

-- the circuit with these gates behind its own
abbrev pub with_gates : Circuit → List Gate → Circuit
with_gates c gs = record c { gates = c.gates ++ gs }

abbrev pub bit_at : List Bool → Bits
bit_at bits v = slice_index_or bits v false

-- the CZ of the wires of two vertices, that of the lower-numbered vertex first
abbrev pub cz_by : List ℕ → ℕ → ℕ → Gate
cz_by wires v w =
    cond (nat_lt w v) (CZ (number_at wires w) (number_at wires v))
    (CZ (number_at wires v) (number_at wires w))

-- those of a vertex with its current neighbours from a number on
abbrev pub row_gates : OpenGraph → List ℕ → List Bool → ℕ → ℕ → List Gate
row_gates g wires current from v =
    map (cz_by wires v) (filter (λ w. nat_le from w && bit_at current w) (neighbours g v))

-- those of a current vertex with its current neighbours of higher number
abbrev pub first_row : OpenGraph → List ℕ → List Bool → ℕ → List Gate
first_row g wires current v = cond (bit_at current v) (row_gates g wires current (v + 1) v) []

-- the fixed corrections of a vertex, two gates for each
abbrev pub fixed_row : ℕ → OpenGraph → List ℕ → ℕ → List Gate
fixed_row half g wires v =
    let w = number_at wires v in
    where_fixed (fixed_at g v) (J w 0 ∷ J w half ∷ []) (J w half ∷ J w 0 ∷ [])

-- what an extraction begins with: the next of each vertex in a causal flow, the vertices in
-- measuring order, the wires, and the first vertices
pub record IsPlan (g : OpenGraph) (next order wires : List ℕ) (first : List Bool) : Type 0 where
  pub long : length next ≡ size g
  pub layer : ℕ → ℕ
  pub flow : IsCausalFlow g (number_at next) layer
  pub order_is : order ≡ measuring_order g layer (depth_of g layer)
  pub wires_are : wires ≡ map (wire_of g (number_at next)) (numbers_from 0 (size g))
  pub first_are : first ≡ map (is_first g (number_at next)) (numbers_from 0 (size g))

-- the gates that are extracted
abbrev pub gates_of : ℕ → OpenGraph → (ℕ → ℕ) → List ℕ → List Gate
gates_of half g next order =
    map (λ e. cz_gate g next e.one e.other)
    (filter (λ e. is_first g next e.one && is_first g next e.other) g.edges)
    ++ (extracted_gates g next half [] order ++ fixed_gates half g next)

-- the circuit that is extracted by these nexts and this order
abbrev pub planned : ℕ → OpenGraph → (ℕ → ℕ) → List ℕ → Circuit
planned half g next order = record {
  names = map (name_at g) (first_vertices g next);
  inputs = g.inputs;
  outputs = map (wire_of g next) g.outputs;
  gates = gates_of half g next order;
}
