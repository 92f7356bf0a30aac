-- Worked graphs, computed.
use Rattle.std.proofs.Common.{◌≡◌, ℕ, zero, suc, Bool, true, false, List, [], ◌∷◌, refl, codes}
use Rattle.std.specs.Prelude.{ℤ, pos, negsuc, map, replicate, Some, None}
use Rattle.mc_model.specs.Names.{Name}
use Rattle.mc_model.specs.Numbers.{is_member, numbers_from, pairs_at, pairs_below}
use Rattle.mc_model.specs.Bits.{Bits, odd, all_zero}
use Rattle.mc_model.specs.Signals.{signal_of, no_signal}
use Rattle.mc_model.specs.Phase.{negated}
use Rattle.mc_model.specs.Ring.{ring}
use Rattle.mc_model.specs.Pattern.{Prep, Ent, Meas, FixX, FixZ, J, CZ}
use Rattle.mc_model.specs.Amplitude.{start, act, after, amp, branch_map, placed}
use Rattle.mc_model.specs.Translation.{preparations}
use Rattle.mc_model.specs.Valid.{measured}
use Rattle.mc_model.specs.StandardForm.{is_edge, first_sum, second_sum, sum_over_places, first_part}
use Rattle.mc_model.specs.StandardForm.{second_part, x_sum, x_part}
use Rattle.mc_model.specs.Graph.{edge, OpenGraph, joins, odd_neighbourhood, not_fixed, graph_of}
use Rattle.mc_model.specs.Graph.{angle_in, fixed_corrections, zero_pattern}
use Rattle.mc_model.specs.Flow.{depth_of}
use Rattle.mc_model.specs.Made.{measuring_order, corrected_measurement, flow_pattern, chain_start}
use Rattle.mc_model.specs.Made.{extracted_gates, fixed_gates, extracted_circuit}

-- which of the vertices below `n` are in a set
abbrev pub table : ℕ → Bits → List Bool
table n s = map s (numbers_from 0 n)

-- ---- a chain: `in a`, `n b`, `n c`, `n d`, the edges a b, b c, c d, all but `d` measured at 0

abbrev pub chain : OpenGraph
chain = record {
  names = codes "a" ∷ codes "b" ∷ codes "c" ∷ codes "d" ∷ [];
  inputs = 1;
  outputs = 3 ∷ [];
  edges = edge 0 1 ∷ edge 1 2 ∷ edge 2 3 ∷ [];
  angles = Some 0 ∷ Some 0 ∷ Some 0 ∷ None ∷ [];
  fixed = replicate 4 not_fixed;
}

-- `a` is corrected by `b d`, `b` by `c`, `c` by `d`
abbrev pub chain_sets : ℕ → Bits
chain_sets zero = is_member (1 ∷ 3 ∷ [])
chain_sets (suc zero) = is_member (2 ∷ [])
chain_sets (suc (suc n)) = is_member (3 ∷ [])

abbrev pub chain_layer : ℕ → ℕ
chain_layer zero = 3
chain_layer (suc zero) = 2
chain_layer (suc (suc zero)) = 1
chain_layer (suc (suc (suc n))) = 0

-- the odd neighbourhoods of the three sets
pub chain_odd_a : table 4 (odd_neighbourhood chain (chain_sets 0))
    ≡ true ∷ false ∷ false ∷ false ∷ []
unfolding odd joins
chain_odd_a = refl

pub chain_odd_b : table 4 (odd_neighbourhood chain (chain_sets 1))
    ≡ false ∷ true ∷ false ∷ true ∷ []
unfolding odd joins
chain_odd_b = refl

pub chain_odd_c : table 4 (odd_neighbourhood chain (chain_sets 2))
    ≡ false ∷ false ∷ true ∷ false ∷ []
unfolding odd joins
chain_odd_c = refl

pub chain_depth : depth_of chain chain_layer ≡ 3
chain_depth = refl

pub chain_made : flow_pattern chain chain_sets chain_layer ≡ record {
  names = codes "a" ∷ codes "b" ∷ codes "c" ∷ codes "d" ∷ [];
  inputs = 1;
  outputs = 3 ∷ [];
  commands =
      Prep 1 ∷ Prep 2 ∷ Prep 3 ∷ Ent 0 1 ∷ Ent 1 2 ∷ Ent 2 3
      ∷ Meas 0 0 no_signal no_signal ∷ FixX 1 (signal_of 0) ∷ FixX 3 (signal_of 0)
      ∷ Meas 1 0 no_signal no_signal ∷ FixX 2 (signal_of 1) ∷ FixZ 3 (signal_of 1)
      ∷ Meas 2 0 no_signal no_signal ∷ FixX 3 (signal_of 2) ∷ [];
}
unfolding odd joins flow_pattern measuring_order corrected_measurement preparations
    fixed_corrections
chain_made = refl

-- each vertex is followed by its neighbour: one wire, with three gates
pub chain_extracted : extracted_circuit 4 chain suc chain_layer ≡ record {
  names = codes "a" ∷ [];
  inputs = 1;
  outputs = 0 ∷ [];
  gates = J 0 0 ∷ J 0 0 ∷ J 0 0 ∷ [];
}
unfolding joins measuring_order chain_start extracted_gates extracted_circuit negated fixed_gates
chain_extracted = refl

-- ---- three inputs and three outputs, with a flow of depth 1 and no causal flow

abbrev pub six_names : List Name
six_names =
    codes "a1" ∷ codes "a2" ∷ codes "a3" ∷ codes "b1" ∷ codes "b2" ∷ codes "b3" ∷ []

abbrev pub with_flow : OpenGraph
with_flow = record {
  names = six_names;
  inputs = 3;
  outputs = 3 ∷ 4 ∷ 5 ∷ [];
  edges =
      edge 0 3 ∷ edge 0 4 ∷ edge 1 3 ∷ edge 1 4 ∷ edge 1 5 ∷ edge 2 3 ∷ edge 2 5 ∷ [];
  angles = Some 0 ∷ Some 0 ∷ Some 0 ∷ None ∷ None ∷ None ∷ [];
  fixed = replicate 6 not_fixed;
}

-- the sets `b1 b3`, `b1 b2 b3` and `b1 b2`: each is odd at its own input alone
pub odd_of_first : table 6 (odd_neighbourhood with_flow (is_member (3 ∷ 5 ∷ [])))
    ≡ true ∷ false ∷ false ∷ false ∷ false ∷ false ∷ []
unfolding odd joins
odd_of_first = refl

pub odd_of_second : table 6 (odd_neighbourhood with_flow (is_member (3 ∷ 4 ∷ 5 ∷ [])))
    ≡ false ∷ true ∷ false ∷ false ∷ false ∷ false ∷ []
unfolding odd joins
odd_of_second = refl

pub odd_of_third : table 6 (odd_neighbourhood with_flow (is_member (3 ∷ 4 ∷ [])))
    ≡ false ∷ false ∷ true ∷ false ∷ false ∷ false ∷ []
unfolding odd joins
odd_of_third = refl

-- ---- other edges between the same vertices: no flow

abbrev pub without_flow : OpenGraph
without_flow = record {
  names = six_names;
  inputs = 3;
  outputs = 3 ∷ 4 ∷ 5 ∷ [];
  edges = edge 0 3 ∷ edge 0 5 ∷ edge 1 3 ∷ edge 1 4 ∷ edge 2 4 ∷ edge 2 5 ∷ [];
  angles = Some 0 ∷ Some 0 ∷ Some 0 ∷ None ∷ None ∷ None ∷ [];
  fixed = replicate 6 not_fixed;
}

-- every vertex outside `a1 a2 a3` has an even number of neighbours in it
pub even_set : table 6 (odd_neighbourhood without_flow (is_member (0 ∷ 1 ∷ 2 ∷ [])))
    ≡ false ∷ false ∷ false ∷ false ∷ false ∷ false ∷ []
unfolding odd joins
even_set = refl

-- ---- two outputs and an edge, nothing to measure

abbrev pub two_outputs : OpenGraph
two_outputs = record {
  names = codes "a" ∷ codes "b" ∷ [];
  inputs = 1;
  outputs = 0 ∷ 1 ∷ [];
  edges = edge 0 1 ∷ [];
  angles = None ∷ None ∷ [];
  fixed = replicate 2 not_fixed;
}

pub two_outputs_depth : depth_of two_outputs (λ v. 0) ≡ 0
two_outputs_depth = refl

pub two_outputs_made : flow_pattern two_outputs (λ i. all_zero) (λ v. 0) ≡ record {
  names = codes "a" ∷ codes "b" ∷ [];
  inputs = 1;
  outputs = 0 ∷ 1 ∷ [];
  commands = Prep 1 ∷ Ent 0 1 ∷ [];
}
unfolding flow_pattern measuring_order preparations fixed_corrections
two_outputs_made = refl

pub two_outputs_extracted : extracted_circuit 4 two_outputs (λ v. v) (λ v. 0) ≡ record {
  names = codes "a" ∷ codes "b" ∷ [];
  inputs = 1;
  outputs = 0 ∷ 1 ∷ [];
  gates = CZ 0 1 ∷ [];
}
unfolding measuring_order chain_start extracted_gates extracted_circuit fixed_gates
two_outputs_extracted = refl

-- the zero pattern's map: -1 where input and outputs are 1
zero_entries : List (List ℤ)
zero_entries =
    entry (false ∷ false ∷ []) false ∷ entry (false ∷ true ∷ []) false
    ∷ entry (true ∷ false ∷ []) true ∷ entry (true ∷ true ∷ []) true
    ∷ entry (true ∷ true ∷ []) false ∷ []
  where
    entry : List Bool → Bool → List ℤ
    entry y b = (branch_map (ring 4) (zero_pattern two_outputs) all_zero y (λ k. b)).coefficients

abbrev number : ℤ → List ℤ
number n = n ∷ pos 0 ∷ pos 0 ∷ pos 0 ∷ []

two_outputs_map : zero_entries
    ≡ number (pos 1) ∷ number (pos 1) ∷ number (pos 1) ∷ number (negsuc 0) ∷ number (pos 0) ∷ []
unfolding zero_entries zero_pattern fixed_corrections preparations branch_map placed amp after act
    start
two_outputs_map = refl

-- ---- the graph of a pattern with two gates in a row

pub graph_of_two_gates : graph_of 4 (record {
  names = codes "a" ∷ codes "q1" ∷ codes "q2" ∷ [];
  inputs = 1;
  outputs = 2 ∷ [];
  commands =
      Prep 1 ∷ Ent 0 1 ∷ Meas 0 7 no_signal no_signal ∷ FixX 1 (signal_of 0)
      ∷ Prep 2 ∷ Ent 1 2 ∷ Meas 1 6 no_signal no_signal ∷ FixX 2 (signal_of 1) ∷ [];
})
    ≡ record {
      names = codes "a" ∷ codes "q1" ∷ codes "q2" ∷ [];
      inputs = 1;
      outputs = 2 ∷ [];
      edges = edge 0 1 ∷ edge 1 2 ∷ [];
      angles = Some 7 ∷ Some 6 ∷ None ∷ [];
      fixed = replicate 3 not_fixed;
    }
unfolding graph_of pairs_below pairs_at is_edge angle_in measured first_sum second_sum
    sum_over_places
    first_part second_part x_sum x_part
graph_of_two_gates = refl
