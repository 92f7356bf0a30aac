-- Circuits and measurement patterns, as lists of gates and of commands.
use Rattle.std.specs.Prelude.{◌≡◌, ℕ, Bool, false, ◌||◌, List, length, filter_map, Option, None}
use Rattle.std.specs.Prelude.{Some}
use Rattle.std.specs.List.{list_any}
use Rattle.mc_model.specs.Names.{Name}
use Rattle.mc_model.specs.Signals.{Signal}

-- prepare, entangle, measure at a base angle with the signals `s` and `t`, correct by `X`, correct
-- by `Z`
pub data Command : Type 0 where
  Prep : ℕ → Command
  Ent : ℕ → ℕ → Command
  Meas : ℕ → ℕ → Signal → Signal → Command
  FixX : ℕ → Signal → Command
  FixZ : ℕ → Signal → Command

-- a signal of the command has the constant
abbrev pub has_constant : Command → Bool
has_constant (Prep q) = false
has_constant (Ent q r) = false
has_constant (Meas q a s t) = s.constant || t.constant
has_constant (FixX q s) = s.constant
has_constant (FixZ q s) = s.constant

-- no signal of the commands has the constant
abbrev pub HasNoConstants : List Command → Type 0
HasNoConstants cs = list_any has_constant cs ≡ false

-- the qubit that a command measures
abbrev pub measured_by : Command → Option ℕ
measured_by (Prep q) = None
measured_by (Ent q r) = None
measured_by (Meas q a s t) = Some q
measured_by (FixX q s) = None
measured_by (FixZ q s) = None

-- the measured qubits, in measuring order
abbrev pub measured_order : List Command → List ℕ
measured_order cs = filter_map measured_by cs

-- the inputs are the first of the qubits; the commands stand in order of execution
pub record Pattern : Type 0 where
  pub names : List Name
  pub inputs : ℕ
  pub outputs : List ℕ
  pub commands : List Command

-- `J` at an angle on a wire, and CZ on two
pub data Gate : Type 0 where
  J : ℕ → ℕ → Gate
  CZ : ℕ → ℕ → Gate

-- the inputs are the first of the wires, the others begin in `(|0> + |1>)/√2`
pub record Circuit : Type 0 where
  pub names : List Name
  pub inputs : ℕ
  pub outputs : List ℕ
  pub gates : List Gate

abbrev pub wires : Circuit → ℕ
wires c = length c.names
