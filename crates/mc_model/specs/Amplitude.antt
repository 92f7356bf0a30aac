-- What circuits and patterns mean: an amplitude for each setting, up to a power of the root of two.
use Rattle.std.specs.Prelude.{◌≡◌, ℕ, zero, suc, ◌+◌, ◌-◌, Bool, true, false, cond, not, ◌&&◌, List}
use Rattle.std.specs.Prelude.{[], ◌∷◌}
use Rattle.mc_model.specs.Phase.{PhaseOps, turn, sign, negated, measured_angle}
use Rattle.mc_model.specs.Bits.{◌⊻◌, Bits, all_zero, replaced}
use Rattle.mc_model.specs.Signals.{value}
use Rattle.mc_model.specs.Pattern.{Command, Prep, Ent, Meas, FixX, FixZ, Pattern, Gate, J, CZ}
use Rattle.mc_model.specs.Pattern.{Circuit, wires}

-- an amplitude for each setting
abbrev pub Amps : Type 0 → Type 0
Amps E = Bits → E

-- whether the setting is that of the input bits on the first `n` qubits
abbrev pub agrees : ℕ → Bits → Bits → Bool
agrees zero b x = true
agrees (suc n) b x = not (b n ⊻ x n) && agrees n b x

-- 1 where the setting agrees with the input bits, else 0
unfoldable pub start : {E : Type 0} → PhaseOps E → ℕ → Bits → Amps E
start ops inputs b x = cond (agrees inputs b x) ops.one ops.nought

-- the amplitudes after one more command, at outcomes `o`
unfoldable pub act : {E : Type 0} → PhaseOps E → Bits → Command → Amps E → Amps E
act ops o (Prep i) f x = f x
act ops o (Ent i j) f x = sign ops (x i && x j) (f x)
act ops o (FixX i s) f x = f (replaced x i (x i ⊻ value s o))
act ops o (FixZ i s) f x = sign ops (x i && value s o) (f x)
act ops o (Meas i a s t) f x =
    ops.add (f (replaced x i false))
    (turn ops (negated ops.half (measured_angle ops.half a (value s o) (value t o)))
    (sign ops (o i) (f (replaced x i true))))

-- the amplitudes after a list of commands
unfoldable pub after : {E : Type 0} → PhaseOps E → Bits → List Command → Amps E → Amps E
after ops o [] f = f
after ops o (c ∷ cs) f = after ops o cs (act ops o c f)

-- the amplitudes of a pattern at outcomes `o` and input bits `b`
unfoldable pub amp : {E : Type 0} → PhaseOps E → Pattern → Bits → Bits → Amps E
amp ops p o b = after ops o p.commands (start ops p.inputs b)

-- the setting that is `y` on the listed qubits, in order, and 0 elsewhere
unfoldable pub placed : List ℕ → List Bool → Bits
placed [] ys = all_zero
placed (q ∷ qs) [] = all_zero
placed (q ∷ qs) (y ∷ ys) = replaced (placed qs ys) q y

-- the entry of the branch map of outcomes `o`, at output bits `y` and input bits `b`
unfoldable pub branch_map : {E : Type 0} → PhaseOps E → Pattern → Bits → List Bool → Bits → E
branch_map ops p o y b = amp ops p o b (placed p.outputs y)

-- the branch in which every outcome is 0
abbrev pub zero_branch : {E : Type 0} → PhaseOps E → Pattern → List Bool → Bits → E
zero_branch ops p = branch_map ops p all_zero

-- the amplitudes after one more gate
unfoldable pub act_gate : {E : Type 0} → PhaseOps E → Gate → Amps E → Amps E
act_gate ops (J v a) f x =
    ops.add (f (replaced x v false)) (sign ops (x v) (turn ops a (f (replaced x v true))))
act_gate ops (CZ v u) f x = sign ops (x v && x u) (f x)

unfoldable pub after_gates : {E : Type 0} → PhaseOps E → List Gate → Amps E → Amps E
after_gates ops [] f = f
after_gates ops (g ∷ gs) f = after_gates ops gs (act_gate ops g f)

-- the entry of a circuit's table, at output bits `y` and input bits `b`
unfoldable pub circuit_table : {E : Type 0} → PhaseOps E → Circuit → List Bool → Bits → E
circuit_table ops c y b = after_gates ops c.gates (start ops c.inputs b) (placed c.outputs y)

-- at every outcome list the branch map of the pattern is the circuit's table
abbrev pub HasTableAtEachBranch : {E : Type 0} → PhaseOps E → Circuit → Pattern → Type 0
HasTableAtEachBranch ops c p = (o : Bits) (y : List Bool) (b : Bits) →
    branch_map ops p o y b ≡ circuit_table ops c y b

-- ---- scales: a physical amplitude is an entry over the root of two to this power

unfoldable pub halvings : List Command → ℕ
halvings [] = 0
halvings (Prep q ∷ cs) = suc (halvings cs)
halvings (Ent q r ∷ cs) = halvings cs
halvings (Meas q a s t ∷ cs) = suc (halvings cs)
halvings (FixX q s ∷ cs) = halvings cs
halvings (FixZ q s ∷ cs) = halvings cs

-- the number of `J` gates
unfoldable pub j_count : List Gate → ℕ
j_count [] = 0
j_count (J v a ∷ gs) = suc (j_count gs)
j_count (CZ v u ∷ gs) = j_count gs

-- the preparations and measurements of a pattern
abbrev pub pattern_scale : Pattern → ℕ
pattern_scale p = halvings p.commands

-- the `J` gates of a circuit, and its wires that are no inputs
abbrev pub circuit_scale : Circuit → ℕ
circuit_scale c = j_count c.gates + (wires c - c.inputs)
