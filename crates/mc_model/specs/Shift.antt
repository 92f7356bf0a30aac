-- Signal shifting: a pattern without second signals, which does at changed outcomes what the
-- pattern did.
use Rattle.std.specs.Prelude.{◌≡◌, ℕ, cond, nat_eq, List, [], ◌∷◌, ◌++◌, map, take, slice_get, Some}
use Rattle.std.specs.Prelude.{⊤, false, true}
use Rattle.mc_model.specs.Numbers.{is_member}
use Rattle.mc_model.specs.Bits.{◌⊻◌, Bits}
use Rattle.mc_model.specs.Signals.{Signal, value, no_signal, IsRising}
use Rattle.mc_model.specs.Pattern.{Command, Prep, Ent, Meas, FixX, FixZ, Pattern, measured_order}
use Rattle.mc_model.specs.StandardForm.{standard_form}

-- a qubit whose outcome is changed by the value of a signal
pub record ChangeRow : Type 0 where
  pub qubit : ℕ
  pub signal : Signal

abbrev pub qubits_of : List ChangeRow → List ℕ
qubits_of rows = map (λ (row : ChangeRow). row.qubit) rows

-- each member of a row's signal is one of the qubits before that of the row
abbrev pub AreEarlier : List ℕ → List ChangeRow → Type 0
AreEarlier order rows = (i : ℕ) (row : ChangeRow) → slice_get rows i ≡ Some row →
    (q : ℕ) → is_member row.signal.members q ≡ true → is_member (take i order) q ≡ true

-- a row for each measured qubit, in measuring order, and each member of its signal was measured
-- before the qubit
pub record IsChangeOf (p : Pattern) (rows : List ChangeRow) : Type 0 where
  pub qubits : qubits_of rows ≡ measured_order p.commands
  pub earlier : AreEarlier (measured_order p.commands) rows

-- the new outcomes: at the qubit of each row the old outcome plus the value of the row's signal at
-- the old outcomes
unfoldable pub new_outcomes : List ChangeRow → Bits → Bits
new_outcomes [] o k = o k
new_outcomes (row ∷ rows) o k =
    cond (nat_eq k row.qubit) (value row.signal o) false ⊻ new_outcomes rows o k

-- the change of a standard form: the second signal of each measured qubit, in measuring order
unfoldable pub change_of : List Command → List ChangeRow
change_of [] = []
change_of (Prep q ∷ cs) = change_of cs
change_of (Ent q r ∷ cs) = change_of cs
change_of (Meas q a s t ∷ cs) = record { qubit = q; signal = t } ∷ change_of cs
change_of (FixX q s ∷ cs) = change_of cs
change_of (FixZ q s ∷ cs) = change_of cs

-- the shifted signal: the one that has at the new outcomes the value of the old one at the old
-- outcomes
pub record IsShiftedSignal (rows : List ChangeRow) (s s' : Signal) : Type 0 where
  pub is_set : IsRising s'.members
  pub same_value : (o : Bits) → value s' (new_outcomes rows o) ≡ value s o

-- command by command: second signals are emptied, and every other signal is shifted
abbrev pub IsShifted : List ChangeRow → List Command → List Command → Type 0
IsShifted rows [] [] = ⊤
IsShifted rows (Prep q ∷ cs) (Prep q' ∷ ds) = (q' ≡ q) × IsShifted rows cs ds
IsShifted rows (Ent q r ∷ cs) (Ent q' r' ∷ ds) = (q' ≡ q) × (r' ≡ r) × IsShifted rows cs ds
IsShifted rows (Meas q a s t ∷ cs) (Meas q' a' s' t' ∷ ds) =
    (q' ≡ q) × (a' ≡ a) × IsShiftedSignal rows s s' × (t' ≡ no_signal) × IsShifted rows cs ds
IsShifted rows (FixX q s ∷ cs) (FixX q' s' ∷ ds) =
    (q' ≡ q) × IsShiftedSignal rows s s' × IsShifted rows cs ds
IsShifted rows (FixZ q s ∷ cs) (FixZ q' s' ∷ ds) =
    (q' ≡ q) × IsShiftedSignal rows s s' × IsShifted rows cs ds
IsShifted rows _ _ = ⊥

-- the shifted form of a standard form
pub record IsShiftedForm (p q : Pattern) : Type 0 where
  pub names : q.names ≡ p.names
  pub inputs : q.inputs ≡ p.inputs
  pub outputs : q.outputs ≡ p.outputs
  pub commands : IsShifted (change_of p.commands) p.commands q.commands

-- no measurement of the list has a second signal
abbrev pub HasNoSecondSignals : List Command → Type 0
HasNoSecondSignals cs = (before : List Command) (q a : ℕ) (s t : Signal) (behind : List Command) →
    cs ≡ before ++ (Meas q a s t ∷ behind) → t ≡ no_signal

-- a pattern in shifted form: it is its own standard form, and has no second signals
pub record IsInShiftedForm (p : Pattern) : Type 0 where
  pub standard : standard_form p ≡ p
  pub shifted : HasNoSecondSignals p.commands
