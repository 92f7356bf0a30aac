-- What every pattern keeps, and every builder.
use Rattle.std.specs.Prelude.{◌≡◌, ℕ, ◌+◌, ◌≤◌, ◌<◌, Bool, List, [], length, count_by, None, IsTrue}
use Rattle.mc_model.specs.Steps.{is_permitted}
use Rattle.mc_model.specs.Limits.{most_commands, most_qubits}
use Rattle.mc_model.specs.Bits.{bits_of}
use Rattle.mc_model.specs.Names.{Name, AreNames, place_of}
use Rattle.mc_model.specs.Numbers.{numbers_from}
use Rattle.mc_model.specs.Pattern.{Command, Pattern}
use Rattle.mc_model.specs.Valid.{IsValid, IsValidPattern, prepared, measured}
use Rattle.mc_pattern.specs.Typed.{AllTyped}

-- valid, and of at most 262,144 commands, with angles in steps of which `half` make half a turn
pub record IsPattern (half : ℕ) (p : Pattern) : Type 0 where
  pub permitted : IsTrue (is_permitted half)
  pub valid : IsValidPattern p
  pub few : length p.commands ≤ most_commands
  pub typed : AllTyped half p.commands

-- a pattern so far: without outputs
abbrev pub begun : List Name → ℕ → List Command → Pattern
begun names inputs commands =
    record { names = names; inputs = inputs; outputs = []; commands = commands }

-- the pattern with outputs
abbrev pub with_outputs : Pattern → List ℕ → Pattern
with_outputs p qs = record p { outputs = qs }

-- the same of a pattern so far, apart from its outputs
pub record IsBegun (half : ℕ) (p : Pattern) : Type 0 where
  pub permitted : IsTrue (is_permitted half)
  pub names : AreNames p.names
  pub qubits : length p.names ≡ p.inputs + prepared p.commands
  pub commands : IsValid p.inputs p.commands
  pub few : length p.commands ≤ most_commands
  pub typed : AllTyped half p.commands

-- a builder has a mark for each number below 256, and it stands at the measured qubits
pub record IsBuilt (half : ℕ) (p : Pattern) (marks : List Bool) : Type 0 where
  pub begun : IsBegun half p
  pub long : length marks ≡ most_qubits
  pub same : bits_of marks ≡ measured p.commands

-- a qubit with this name may be prepared: the name is not held, and there is room
pub record IsFree (p : Pattern) (name : Name) : Type 0 where
  pub new : place_of p.names name ≡ None
  pub few : length p.names < most_qubits
  pub room : length p.commands < most_commands

-- how many qubits are measured
abbrev pub measured_count : Pattern → ℕ
measured_count p = count_by (measured p.commands) (numbers_from 0 (length p.names))
