-- What every circuit keeps, and why a gate is refused.
use Rattle.std.specs.Prelude.{ℕ, ◌*◌, ◌≤◌, ◌<◌, not, ◌&&◌, nat_lt, nat_eq, List, [], ◌∷◌, length}
use Rattle.std.specs.Prelude.{if◌then◌else◌, Option, None, Some, ⊤, IsTrue}
use Rattle.mc_model.specs.Steps.{is_permitted}
use Rattle.mc_model.specs.Limits.{most_gates}
use Rattle.mc_model.specs.Pattern.{Circuit, Gate, J, CZ}
use Rattle.mc_model.specs.Names.{AreNames}
use Rattle.mc_model.specs.Valid.{IsValidCircuit, GatesFit}

-- each angle is less than a turn
abbrev pub AnglesFit : ℕ → List Gate → Type 0
AnglesFit half [] = ⊤
AnglesFit half (J v a ∷ gs) = (a < 2 * half) × AnglesFit half gs
AnglesFit half (CZ v u ∷ gs) = AnglesFit half gs

-- valid, of at most 32,768 gates, and with angles of less than a turn
pub record IsCircuit (half : ℕ) (c : Circuit) : Type 0 where
  pub permitted : IsTrue (is_permitted half)
  pub valid : IsValidCircuit c
  pub few : length c.gates ≤ most_gates
  pub angles : AnglesFit half c.gates

-- the same without outputs
pub record IsBegun (half : ℕ) (c : Circuit) : Type 0 where
  pub permitted : IsTrue (is_permitted half)
  pub names : AreNames c.names
  pub inputs : c.inputs ≤ length c.names
  pub gates : GatesFit (length c.names) c.gates
  pub few : length c.gates ≤ most_gates
  pub angles : AnglesFit half c.gates

-- the least rule that a gate breaks: 1, an operand is no wire; 2, both operands of a CZ are one wire
abbrev pub broken_rule : ℕ → Gate → Option ℕ
broken_rule wires (J v a) = if nat_lt v wires then None else Some 1
broken_rule wires (CZ v u) =
    if not (nat_lt v wires && nat_lt u wires) then Some 1
    else (if nat_eq v u then Some 2 else None)
