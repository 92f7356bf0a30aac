-- Worked circuits and patterns, computed.
use Rattle.std.proofs.Common.{◌≡◌, Bool, true, false, List, [], ◌∷◌, refl, codes, arith}
use Rattle.std.specs.Prelude.{ℤ, pos, negsuc}
use Rattle.std.specs.Fmt.{digits}
use Rattle.mc_model.specs.Names.{Name}
use Rattle.mc_model.specs.Numbers.{pairs_at, pairs_below}
use Rattle.mc_model.specs.Bits.{◌⊻◌, parity}
use Rattle.mc_model.specs.Signals.{Signal, value, signal_of, no_signal, toggled, toggled_all}
use Rattle.mc_model.specs.Phase.{turn, negated}
use Rattle.mc_model.specs.Ring.{ring}
use Rattle.mc_model.specs.Pattern.{Command, Prep, Ent, Meas, FixX, FixZ, J, CZ, Circuit, Pattern}
use Rattle.mc_model.specs.Amplitude.{start, act, after, amp, branch_map, placed, act_gate}
use Rattle.mc_model.specs.Amplitude.{after_gates, circuit_table, j_count}
use Rattle.mc_model.specs.Valid.{prepared, measured}
use Rattle.mc_model.specs.Translation.{translation, translated, last_qubits, preparations}
use Rattle.mc_model.specs.StandardForm.{sum_over_places, x_part, x_sum, first_part, second_part}
use Rattle.mc_model.specs.StandardForm.{first_sum, second_sum, preparations_of, is_edge}
use Rattle.mc_model.specs.StandardForm.{measurements_with, corrections_below, standard_commands}
use Rattle.mc_model.specs.StandardForm.{standard_form}
use Rattle.mc_model.specs.Shift.{ChangeRow, new_outcomes, change_of, IsShiftedSignal, IsShiftedForm}

-- `in a`, a gate `J` of one step on `a`, `out a`
abbrev pub one_gate : Circuit
one_gate = record {
  names = codes "a" ∷ [];
  inputs = 1;
  outputs = 0 ∷ [];
  gates = J 0 1 ∷ [];
}

abbrev pub one_gate_pattern : Pattern
one_gate_pattern = record {
  names = codes "a" ∷ codes "q1" ∷ [];
  inputs = 1;
  outputs = 1 ∷ [];
  commands = Prep 1 ∷ Ent 0 1 ∷ Meas 0 7 no_signal no_signal ∷ FixX 1 (signal_of 0) ∷ [];
}

pub one_gate_translates : translation 4 one_gate ≡ one_gate_pattern
unfolding translation translated last_qubits preparations negated j_count digits
one_gate_translates = refl

-- a wire that is called `q1` leaves `q2` as the first fresh name
pub fresh_names : (translation 4 (record {
  names = codes "q1" ∷ [];
  inputs = 1;
  outputs = 0 ∷ [];
  gates = J 0 0 ∷ [];
})).names ≡ codes "q1" ∷ codes "q2" ∷ []
unfolding translation j_count digits
fresh_names = refl

abbrev pub one : List ℤ
one = pos 1 ∷ pos 0 ∷ pos 0 ∷ pos 0 ∷ []

abbrev pub w : List ℤ
w = pos 0 ∷ pos 1 ∷ pos 0 ∷ pos 0 ∷ []

abbrev pub minus_w : List ℤ
minus_w = pos 0 ∷ negsuc 0 ∷ pos 0 ∷ pos 0 ∷ []

-- the entries at output and input bits 00, 10, 01, 11
abbrev pub branch_entries : Bool → List (List ℤ)
branch_entries o = entry false false ∷ entry true false ∷ entry false true ∷ entry true true ∷ []
  where
    entry : Bool → Bool → List ℤ
    entry y b = (branch_map (ring 4) one_gate_pattern (λ k. o) (y ∷ []) (λ k. b)).coefficients

abbrev pub table_entries : List (List ℤ)
table_entries = entry false false ∷ entry true false ∷ entry false true ∷ entry true true ∷ []
  where
    entry : Bool → Bool → List ℤ
    entry y b = (circuit_table (ring 4) one_gate (y ∷ []) (λ k. b)).coefficients

pub one_gate_branch_0 : branch_entries false ≡ one ∷ one ∷ w ∷ minus_w ∷ []
unfolding branch_map placed amp after act start turn negated parity value
one_gate_branch_0 = refl

pub one_gate_branch_1 : branch_entries true ≡ one ∷ one ∷ w ∷ minus_w ∷ []
unfolding branch_map placed amp after act start turn negated parity value
one_gate_branch_1 = refl

pub one_gate_table : table_entries ≡ one ∷ one ∷ w ∷ minus_w ∷ []
unfolding circuit_table placed after_gates act_gate start turn
one_gate_table = refl

-- `in a b`, CZ on them twice, `out a b`: equal edges cancel
pub twice_entangled : standard_form (translation 4 (record {
  names = codes "a" ∷ codes "b" ∷ [];
  inputs = 2;
  outputs = 0 ∷ 1 ∷ [];
  gates = CZ 0 1 ∷ CZ 0 1 ∷ [];
}))
    ≡ record {
      names = codes "a" ∷ codes "b" ∷ [];
      inputs = 2;
      outputs = 0 ∷ 1 ∷ [];
      commands = [];
    }
unfolding translation translated last_qubits preparations j_count sum_over_places x_part x_sum
    first_part second_part first_sum second_sum preparations_of is_edge pairs_at pairs_below
    measurements_with corrections_below standard_commands standard_form prepared measured
    toggled toggled_all
twice_entangled = refl

-- `in a`, `J` of one step and of two on `a`, `out a`
pub two_gates_standard : standard_form (translation 4 (record {
  names = codes "a" ∷ [];
  inputs = 1;
  outputs = 0 ∷ [];
  gates = J 0 1 ∷ J 0 2 ∷ [];
}))
    ≡ record {
      names = codes "a" ∷ codes "q1" ∷ codes "q2" ∷ [];
      inputs = 1;
      outputs = 2 ∷ [];
      commands =
          Prep 1 ∷ Prep 2 ∷ Ent 0 1 ∷ Ent 1 2
          ∷ Meas 0 7 no_signal no_signal ∷ Meas 1 6 (signal_of 0) no_signal
          ∷ FixX 2 (signal_of 1) ∷ FixZ 2 (signal_of 0) ∷ [];
    }
unfolding digits negated translation translated last_qubits preparations j_count sum_over_places
    x_part x_sum first_part second_part first_sum second_sum preparations_of is_edge pairs_at
    pairs_below measurements_with corrections_below standard_commands standard_form prepared
    measured toggled toggled_all
two_gates_standard = refl

-- a measurement, then `Z` before `X` on one output: the standard form has `X` first
abbrev pub ordered_corrections : List Command
ordered_corrections =
    Meas 0 0 no_signal no_signal ∷ FixX 1 (signal_of 0) ∷ FixZ 1 (signal_of 0) ∷ []

pub corrections_exchanged :
    standard_commands 2
    (Meas 0 0 no_signal no_signal ∷ FixZ 1 (signal_of 0) ∷ FixX 1 (signal_of 0) ∷ [])
    ≡ ordered_corrections
unfolding sum_over_places x_part x_sum first_part second_part first_sum second_sum preparations_of
    is_edge pairs_at pairs_below measurements_with corrections_below standard_commands
    prepared measured toggled toggled_all
corrections_exchanged = refl

pub ordered_corrections_stay : standard_commands 2 ordered_corrections ≡ ordered_corrections
unfolding sum_over_places x_part x_sum first_part second_part first_sum second_sum preparations_of
    is_edge pairs_at pairs_below measurements_with corrections_below standard_commands
    prepared measured toggled toggled_all
ordered_corrections_stay = refl

-- `in a`, `J` of one step, of two and of three on `a`, `out a`
abbrev pub three_names : List Name
three_names = codes "a" ∷ codes "q1" ∷ codes "q2" ∷ codes "q3" ∷ []

abbrev pub three_gates_standard_form : Pattern
three_gates_standard_form = record {
  names = three_names;
  inputs = 1;
  outputs = 3 ∷ [];
  commands =
      Prep 1 ∷ Prep 2 ∷ Prep 3 ∷ Ent 0 1 ∷ Ent 1 2 ∷ Ent 2 3
      ∷ Meas 0 7 no_signal no_signal ∷ Meas 1 6 (signal_of 0) no_signal
      ∷ Meas 2 5 (signal_of 1) (signal_of 0)
      ∷ FixX 3 (signal_of 2) ∷ FixZ 3 (signal_of 1) ∷ [];
}

pub three_gates_standard : standard_form (translation 4 (record {
  names = codes "a" ∷ [];
  inputs = 1;
  outputs = 0 ∷ [];
  gates = J 0 1 ∷ J 0 2 ∷ J 0 3 ∷ [];
}))
    ≡ three_gates_standard_form
unfolding digits negated translation translated last_qubits preparations j_count sum_over_places
    x_part x_sum first_part second_part first_sum second_sum preparations_of is_edge pairs_at
    pairs_below measurements_with corrections_below standard_commands standard_form prepared
    measured toggled toggled_all
three_gates_standard = refl

-- its change is that of the third outcome by the first, and its shifted form corrects by the first
-- and the third
abbrev pub three_gates_rows : List ChangeRow
three_gates_rows =
    (record { qubit = 0; signal = no_signal }) ∷ (record { qubit = 1; signal = no_signal })
    ∷ (record { qubit = 2; signal = signal_of 0 }) ∷ []

pub three_gates_change : change_of three_gates_standard_form.commands ≡ three_gates_rows
unfolding change_of
three_gates_change = refl

abbrev pub first_and_third : Signal
first_and_third = record { members = 0 ∷ 2 ∷ []; constant = false }

abbrev pub three_gates_shifted_form : Pattern
three_gates_shifted_form = record {
  names = three_names;
  inputs = 1;
  outputs = 3 ∷ [];
  commands =
      Prep 1 ∷ Prep 2 ∷ Prep 3 ∷ Ent 0 1 ∷ Ent 1 2 ∷ Ent 2 3
      ∷ Meas 0 7 no_signal no_signal ∷ Meas 1 6 (signal_of 0) no_signal
      ∷ Meas 2 5 (signal_of 1) no_signal
      ∷ FixX 3 first_and_third ∷ FixZ 3 (signal_of 1) ∷ [];
}

unshifted : (a : Bool) → (a ⊻ false) ⊻ false ≡ a ⊻ false
unshifted a = grind arith

twice_unshifted : (a : Bool) → (false ⊻ a) ⊻ false ≡ a ⊻ false
twice_unshifted a = grind arith

third_restored : (a c : Bool) → a ⊻ (((a ⊻ false) ⊻ c) ⊻ false) ≡ c ⊻ false
third_restored a c = grind arith

shifted_none : (rows : List ChangeRow) → IsShiftedSignal rows no_signal no_signal
unfolding value parity
shifted_none rows = record { is_set = tt; same_value = λ o. refl }

shifted_first : IsShiftedSignal three_gates_rows (signal_of 0) (signal_of 0)
unfolding value parity new_outcomes
shifted_first = record { is_set = (tt, tt); same_value = λ o. refl }

shifted_second : IsShiftedSignal three_gates_rows (signal_of 1) (signal_of 1)
unfolding value parity new_outcomes
shifted_second = record { is_set = (tt, tt); same_value = λ o. refl }

shifted_third : IsShiftedSignal three_gates_rows (signal_of 2) first_and_third
unfolding value parity new_outcomes
shifted_third = record {
  is_set = ((omega arith, tt), (tt, tt));
  same_value = λ o. third_restored (o 0) (o 2);
}

pub three_gates_shifted : IsShiftedForm three_gates_standard_form three_gates_shifted_form
unfolding change_of
three_gates_shifted =
    let rows : List ChangeRow = three_gates_rows in
    record {
      names = refl;
      inputs = refl;
      outputs = refl;
      commands = (
        refl,
        (
          refl,
          (
            refl,
            (
              refl,
              refl,
              (
                refl,
                refl,
                (
                  refl,
                  refl,
                  (
                    refl,
                    refl,
                    shifted_none rows,
                    refl,
                    (
                      refl,
                      refl,
                      shifted_first,
                      refl,
                      (
                        refl,
                        refl,
                        shifted_second,
                        refl,
                        (
                          refl,
                          shifted_third,
                          (refl, shifted_second, tt),
                        ),
                      ),
                    ),
                  ),
                ),
              ),
            ),
          ),
        ),
      );
    }
