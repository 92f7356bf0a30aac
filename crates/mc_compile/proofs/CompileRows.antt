-- Worked circuits, compiled.
use Rattle.std.proofs.Common.{◌≡◌, ℕ, zero, suc, [], ◌∷◌, refl, codes}
use Rattle.std.specs.Fmt.{digits}
use Rattle.mc_model.specs.Numbers.{is_member, pairs_at, pairs_below}
use Rattle.mc_model.specs.Bits.{Bits, parity, all_zero, odd}
use Rattle.mc_model.specs.Signals.{signal_of, no_signal, toggled, toggled_all}
use Rattle.mc_model.specs.Phase.{negated}
use Rattle.mc_model.specs.Pattern.{Prep, Ent, Meas, FixX, FixZ, J, CZ}
use Rattle.mc_model.specs.Amplitude.{j_count}
use Rattle.mc_model.specs.Valid.{prepared, measured}
use Rattle.mc_model.specs.Translation.{translation, translated, last_qubits, preparations}
use Rattle.mc_model.specs.StandardForm.{sum_over_places, x_part, x_sum, first_part, second_part}
use Rattle.mc_model.specs.StandardForm.{first_sum, second_sum, preparations_of, is_edge}
use Rattle.mc_model.specs.StandardForm.{measurements_with, corrections_below, standard_commands}
use Rattle.mc_model.specs.StandardForm.{standard_form}
use Rattle.mc_model.specs.Graph.{joins, angle_in, graph_of, fixed_corrections}
use Rattle.mc_model.specs.Made.{measuring_order, corrected_measurement, flow_pattern}
use Rattle.mc_compile.specs.Laws.{circuit_graph}

-- `in a`, `plus r`, `cz a r`, two gates `J` of one step on `a`: `a` is corrected by `r`, and `q1`
-- by `q2`, so that no measurement depends on another
abbrev two_sets : ℕ → Bits
two_sets zero = is_member (1 ∷ [])
two_sets (suc zero) = all_zero
two_sets (suc (suc n)) = is_member (3 ∷ [])

abbrev two_layers : ℕ → ℕ
two_layers zero = 1
two_layers (suc zero) = 0
two_layers (suc (suc zero)) = 1
two_layers (suc (suc (suc n))) = 0

pub two_gates_compiled : standard_form (flow_pattern (circuit_graph 4 (record {
  names = codes "a" ∷ codes "r" ∷ [];
  inputs = 1;
  outputs = 0 ∷ 1 ∷ [];
  gates = CZ 0 1 ∷ J 0 1 ∷ J 0 1 ∷ [];
})) two_sets two_layers)
    ≡ record {
      names = codes "a" ∷ codes "r" ∷ codes "q1" ∷ codes "q2" ∷ [];
      inputs = 1;
      outputs = 3 ∷ 1 ∷ [];
      commands =
          Prep 1 ∷ Prep 2 ∷ Prep 3 ∷ Ent 0 1 ∷ Ent 0 2 ∷ Ent 2 3
          ∷ Meas 0 7 no_signal no_signal ∷ Meas 2 7 no_signal no_signal
          ∷ FixX 1 (signal_of 0) ∷ FixX 3 (signal_of 2) ∷ [];
    }
unfolding digits negated translation translated last_qubits preparations j_count graph_of angle_in
    joins parity odd measuring_order corrected_measurement flow_pattern sum_over_places x_part
    x_sum first_part second_part first_sum second_sum preparations_of is_edge pairs_at
    pairs_below measurements_with corrections_below standard_commands standard_form prepared
    measured toggled toggled_all fixed_corrections
two_gates_compiled = refl

-- two inputs and a plus wire, with a gate `J` and a CZ on it: a `Z` on an output
abbrev one_set : ℕ → Bits
one_set n = is_member (3 ∷ [])

abbrev one_layer : ℕ → ℕ
one_layer zero = 0
one_layer (suc zero) = 0
one_layer (suc (suc zero)) = 1
one_layer (suc (suc (suc n))) = 0

pub one_gate_compiled : standard_form (flow_pattern (circuit_graph 4 (record {
  names = codes "a" ∷ codes "b" ∷ codes "r" ∷ [];
  inputs = 2;
  outputs = 0 ∷ 1 ∷ 2 ∷ [];
  gates = J 2 0 ∷ CZ 2 1 ∷ [];
})) one_set one_layer)
    ≡ record {
      names = codes "a" ∷ codes "b" ∷ codes "r" ∷ codes "q1" ∷ [];
      inputs = 2;
      outputs = 0 ∷ 1 ∷ 3 ∷ [];
      commands =
          Prep 2 ∷ Prep 3 ∷ Ent 1 3 ∷ Ent 2 3 ∷ Meas 2 0 no_signal no_signal
          ∷ FixZ 1 (signal_of 2) ∷ FixX 3 (signal_of 2) ∷ [];
    }
unfolding digits negated translation translated last_qubits preparations j_count graph_of angle_in
    joins parity odd measuring_order corrected_measurement flow_pattern sum_over_places x_part
    x_sum first_part second_part first_sum second_sum preparations_of is_edge pairs_at
    pairs_below measurements_with corrections_below standard_commands standard_form prepared
    measured toggled toggled_all fixed_corrections
one_gate_compiled = refl
