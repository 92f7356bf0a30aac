-- The standard form of a pattern, by closed sums over the places of its list.
use Rattle.std.specs.Prelude.{ℕ, zero, suc, ◌+◌, Bool, false, cond, nat_eq, List, [], ◌∷◌, ◌++◌}
use Rattle.mc_model.specs.Numbers.{pairs_below}
use Rattle.mc_model.specs.Bits.{◌⊻◌, same_pair}
use Rattle.mc_model.specs.Signals.{Signal, no_signal, signal_sum, is_empty, Signals}
use Rattle.mc_model.specs.Pattern.{Command, Prep, Ent, Meas, FixX, FixZ, Pattern}
use Rattle.mc_model.specs.Valid.{prepared, measured}

-- the signal where the two qubits are one
abbrev pub where_same : ℕ → ℕ → Signal → Signal
where_same q r s = cond (nat_eq q r) s no_signal

-- the sum over the places of `cs`: each command with what stands before it
unfoldable pub sum_over_places : (List Command → Command → Signal) → List Command → List Command →
    Signal
sum_over_places part before [] = no_signal
sum_over_places part before (c ∷ cs) =
    signal_sum (part before c) (sum_over_places part (before ++ (c ∷ [])) cs)

-- the signal of an `X q`
unfoldable pub x_part : ℕ → List Command → Command → Signal
x_part q before (Prep r) = no_signal
x_part q before (Ent r u) = no_signal
x_part q before (Meas r a s t) = no_signal
x_part q before (FixX r s) = where_same q r s
x_part q before (FixZ r s) = no_signal

-- the sum of the signals of all `X q` of the list
unfoldable pub x_sum : ℕ → List Command → Signal
x_sum q cs = sum_over_places (x_part q) [] cs

-- the signal of an `X q`, and `s` where `q` is measured
unfoldable pub first_part : ℕ → List Command → Command → Signal
first_part q before (Prep r) = no_signal
first_part q before (Ent r u) = no_signal
first_part q before (Meas r a s t) = where_same q r s
first_part q before (FixX r s) = where_same q r s
first_part q before (FixZ r s) = no_signal

-- the signal of a `Z q`, `t` where `q` is measured, and at an entangling of `q` with some `r` the
-- signals of all `X r` before it
unfoldable pub second_part : ℕ → List Command → Command → Signal
second_part q before (Prep r) = no_signal
second_part q before (Ent r u) =
    signal_sum (where_same q r (x_sum u before)) (where_same q u (x_sum r before))
second_part q before (Meas r a s t) = where_same q r t
second_part q before (FixX r s) = no_signal
second_part q before (FixZ r s) = where_same q r s

-- `S(q)` and `T(q)`
unfoldable pub first_sum : List Command → Signals
first_sum cs q = sum_over_places (first_part q) [] cs

unfoldable pub second_sum : List Command → Signals
second_sum cs q = sum_over_places (second_part q) [] cs

-- the preparations, in order
unfoldable pub preparations_of : List Command → List Command
preparations_of [] = []
preparations_of (Prep q ∷ cs) = Prep q ∷ preparations_of cs
preparations_of (Ent q r ∷ cs) = preparations_of cs
preparations_of (Meas q a s t ∷ cs) = preparations_of cs
preparations_of (FixX q s ∷ cs) = preparations_of cs
preparations_of (FixZ q s ∷ cs) = preparations_of cs

-- the two qubits are entangled an odd number of times
unfoldable pub is_edge : List Command → ℕ → ℕ → Bool
is_edge [] i j = false
is_edge (Prep q ∷ cs) i j = is_edge cs i j
is_edge (Ent q r ∷ cs) i j = same_pair i j q r ⊻ is_edge cs i j
is_edge (Meas q a s t ∷ cs) i j = is_edge cs i j
is_edge (FixX q s ∷ cs) i j = is_edge cs i j
is_edge (FixZ q s ∷ cs) i j = is_edge cs i j

-- the measurements in order with their base angles and other signals
unfoldable pub measurements_with : Signals → Signals → List Command → List Command
measurements_with ss ts [] = []
measurements_with ss ts (Prep q ∷ cs) = measurements_with ss ts cs
measurements_with ss ts (Ent q r ∷ cs) = measurements_with ss ts cs
measurements_with ss ts (Meas q a s t ∷ cs) =
    Meas q a (ss q) (ts q) ∷ measurements_with ss ts cs
measurements_with ss ts (FixX q s ∷ cs) = measurements_with ss ts cs
measurements_with ss ts (FixZ q s ∷ cs) = measurements_with ss ts cs

-- a correction, where its signal is not empty
abbrev pub fix_x : ℕ → Signal → List Command
fix_x q s = cond (is_empty s) [] (FixX q s ∷ [])

abbrev pub fix_z : ℕ → Signal → List Command
fix_z q s = cond (is_empty s) [] (FixZ q s ∷ [])

-- the corrections of the qubits below a bound that are not in the set: by rising number, `X` before
-- `Z`
unfoldable pub corrections_below : (ℕ → Bool) → Signals → Signals → ℕ → List Command
corrections_below gone ss ts zero = []
corrections_below gone ss ts (suc q) =
    corrections_below gone ss ts q ++ cond (gone q) [] (fix_x q (ss q) ++ fix_z q (ts q))

-- preparations, edges, measurements, corrections
unfoldable pub standard_commands : ℕ → List Command → List Command
standard_commands inputs cs =
    preparations_of cs
    ++ (pairs_below Ent (is_edge cs) (inputs + prepared cs) (inputs + prepared cs)
    ++ (measurements_with (first_sum cs) (second_sum cs) cs
    ++ corrections_below (measured cs) (first_sum cs) (second_sum cs) (inputs + prepared cs)))

unfoldable pub standard_form : Pattern → Pattern
standard_form p = record {
  names = p.names;
  inputs = p.inputs;
  outputs = p.outputs;
  commands = standard_commands p.inputs p.commands;
}
