-- A worked pattern with constants in its signals, computed: its graph, and what is made from it.
use Rattle.std.proofs.Common.{◌≡◌, ℕ, suc, ◌-◌, Bool, true, false, List, [], ◌∷◌, refl, codes}
use Rattle.std.specs.Prelude.{ℤ, Some, None}
use Rattle.mc_model.specs.Names.{Name}
use Rattle.mc_model.specs.Numbers.{is_member, pairs_at, pairs_below}
use Rattle.mc_model.specs.Bits.{Bits, parity, odd, all_zero}
use Rattle.mc_model.specs.Signals.{signal_of, no_signal, one_signal, value, toggled, toggled_all}
use Rattle.mc_model.specs.Phase.{negated, turn}
use Rattle.mc_model.specs.Ring.{ring}
use Rattle.mc_model.specs.Pattern.{Prep, Ent, Meas, FixX, FixZ, Pattern, J, Circuit}
use Rattle.mc_model.specs.Amplitude.{start, act, after, amp, branch_map, placed, act_gate}
use Rattle.mc_model.specs.Amplitude.{after_gates, circuit_table}
use Rattle.mc_model.specs.Translation.{preparations}
use Rattle.mc_model.specs.Valid.{measured, prepared}
use Rattle.mc_model.specs.StandardForm.{is_edge, first_sum, second_sum, sum_over_places, first_part}
use Rattle.mc_model.specs.StandardForm.{second_part, x_sum, x_part, preparations_of}
use Rattle.mc_model.specs.StandardForm.{measurements_with, corrections_below, standard_commands}
use Rattle.mc_model.specs.StandardForm.{standard_form}
use Rattle.mc_model.specs.Graph.{edge, OpenGraph, joins, not_fixed, graph_of, angle_in}
use Rattle.mc_model.specs.Graph.{fixed_corrections, zero_pattern}
use Rattle.mc_model.specs.Made.{measuring_order, corrected_measurement, flow_pattern, chain_start}
use Rattle.mc_model.specs.Made.{extracted_gates, fixed_gates, extracted_circuit}

abbrev two_names : List Name
two_names = codes "a" ∷ codes "b" ∷ []

-- `in a`, `n b`, an `X` on `a` in every branch, the edge a b, `a` measured at 1, `X` on `b`
abbrev pub with_constant : Pattern
with_constant = record {
  names = two_names;
  inputs = 1;
  outputs = 1 ∷ [];
  commands =
      Prep 1 ∷ FixX 0 one_signal ∷ Ent 0 1 ∷ Meas 0 1 no_signal no_signal
      ∷ FixX 1 (signal_of 0) ∷ [];
}

pub standard_with_constant : standard_form with_constant ≡ record {
  names = two_names;
  inputs = 1;
  outputs = 1 ∷ [];
  commands =
      Prep 1 ∷ Ent 0 1 ∷ Meas 0 1 one_signal no_signal ∷ FixX 1 (signal_of 0)
      ∷ FixZ 1 one_signal ∷ [];
}
unfolding standard_form standard_commands preparations_of pairs_below pairs_at is_edge
    measurements_with corrections_below measured prepared first_sum second_sum sum_over_places
    first_part second_part x_sum x_part toggled_all toggled
standard_with_constant = refl

-- the `X` turns the angle, and the edge hands it on as a fixed `Z`
abbrev pub turned : OpenGraph
turned = record {
  names = two_names;
  inputs = 1;
  outputs = 1 ∷ [];
  edges = edge 0 1 ∷ [];
  angles = Some 7 ∷ None ∷ [];
  fixed = not_fixed ∷ record { x = false; z = true } ∷ [];
}

pub graph_with_constant : graph_of 4 with_constant ≡ turned
unfolding graph_of pairs_below pairs_at is_edge angle_in measured negated first_sum second_sum
    sum_over_places first_part second_part x_sum x_part toggled_all toggled
graph_with_constant = refl

-- `a` is corrected by `b`
abbrev corrector : ℕ → Bits
corrector i = is_member (1 ∷ [])

abbrev layers : ℕ → ℕ
layers v = 1 - v

pub made_with_constant : flow_pattern turned corrector layers ≡ record {
  names = two_names;
  inputs = 1;
  outputs = 1 ∷ [];
  commands =
      Prep 1 ∷ Ent 0 1 ∷ Meas 0 7 no_signal no_signal ∷ FixX 1 (signal_of 0)
      ∷ FixZ 1 one_signal ∷ [];
}
unfolding odd joins flow_pattern measuring_order corrected_measurement preparations
    fixed_corrections
made_with_constant = refl

-- the fixed `Z` is two gates
abbrev pub extracted : Circuit
extracted = record {
  names = codes "a" ∷ [];
  inputs = 1;
  outputs = 0 ∷ [];
  gates = J 0 1 ∷ J 0 4 ∷ J 0 0 ∷ [];
}

pub extracted_with_constant : extracted_circuit 4 turned suc layers ≡ extracted
unfolding joins measuring_order chain_start extracted_gates extracted_circuit negated fixed_gates
extracted_with_constant = refl

-- the zero branch of the graph is the pattern's turned by one step, and half the circuit's table
abbrev four_entries : (List Bool → Bits → List ℤ) → List (List ℤ)
four_entries entry =
    entry (false ∷ []) (λ k. false) ∷ entry (false ∷ []) (λ k. true)
    ∷ entry (true ∷ []) (λ k. false) ∷ entry (true ∷ []) (λ k. true) ∷ []

zero_entries : List (List ℤ)
zero_entries = four_entries (λ y b.
    (branch_map (ring 4) (zero_pattern turned) all_zero y b).coefficients)

turned_entries : List (List ℤ)
turned_entries = four_entries (λ y b.
    (turn (ring 4) 1 (branch_map (ring 4) with_constant all_zero y b)).coefficients)

turned_zero_branch : zero_entries ≡ turned_entries
unfolding zero_entries turned_entries turn zero_pattern fixed_corrections preparations branch_map
    placed
    amp after act start value parity negated
turned_zero_branch = refl

circuit_entries : List (List ℤ)
circuit_entries = four_entries (λ y b. (circuit_table (ring 4) extracted y b).coefficients)

doubled_entries : List (List ℤ)
doubled_entries = four_entries (λ y b.
    let entry = branch_map (ring 4) (zero_pattern turned) all_zero y b in
    ((ring 4).add entry entry).coefficients)

doubled_table : circuit_entries ≡ doubled_entries
unfolding circuit_entries doubled_entries turn zero_pattern fixed_corrections preparations
    branch_map
    placed amp after act start value parity negated circuit_table after_gates act_gate
doubled_table = refl
