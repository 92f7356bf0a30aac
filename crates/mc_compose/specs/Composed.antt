-- Two patterns as one: the second behind the first, or beside it.
use Rattle.std.specs.Prelude.{◌≡◌, ℕ, ◌+◌, ◌-◌, true, cond, nat_lt, List, [], ◌∷◌, ◌++◌, length}
use Rattle.std.specs.Prelude.{map, take, drop, slice_index_or}
use Rattle.mc_model.specs.Names.{Name, is_held, fresh_name}
use Rattle.mc_model.specs.Bits.{Bits}
use Rattle.mc_model.specs.Signals.{Signal, toggled_all}
use Rattle.mc_model.specs.Pattern.{Command, Prep, Ent, Meas, FixX, FixZ, Pattern}
use Rattle.mc_model.specs.Valid.{measured}

-- the signal, and the command, where `at` tells for each qubit which one it becomes
unfoldable pub placed_signal : (ℕ → ℕ) → Signal → Signal
placed_signal at s = record {
  members = toggled_all (map at s.members) [];
  constant = s.constant;
}

unfoldable pub placed_command : (ℕ → ℕ) → Command → Command
placed_command at (Prep q) = Prep (at q)
placed_command at (Ent q r) = Ent (at q) (at r)
placed_command at (Meas q a s t) = Meas (at q) a (placed_signal at s) (placed_signal at t)
placed_command at (FixX q s) = FixX (at q) (placed_signal at s)
placed_command at (FixZ q s) = FixZ (at q) (placed_signal at s)

abbrev pub placed_commands : (ℕ → ℕ) → List Command → List Command
placed_commands at cs = map (placed_command at) cs

-- a name that is held gives way to a fresh one
abbrev pub free_name : List Name → Name → Name
free_name held name = cond (is_held held name) (fresh_name held) name

-- names for a second list behind those that are held, in order
abbrev pub free_names : List Name → List Name → List Name
free_names held [] = []
free_names held (name ∷ names) =
    free_name held name ∷ free_names (held ++ (free_name held name ∷ [])) names

-- behind the first pattern an input of the second is the first's output of the same place, and its
-- other qubits come behind all of the first
abbrev pub place_behind : Pattern → Pattern → ℕ → ℕ
place_behind first second q =
    cond (nat_lt q second.inputs) (slice_index_or first.outputs q 0)
    (length first.names + (q - second.inputs))

-- the second pattern behind the first, whose outputs are its inputs
unfoldable pub chained : Pattern → Pattern → Pattern
chained first second = record {
  names = first.names ++ free_names first.names (drop second.inputs second.names);
  inputs = first.inputs;
  outputs = map (place_behind first second) second.outputs;
  commands = first.commands ++ placed_commands (place_behind first second) second.commands;
}

-- side by side the inputs of both come first
abbrev pub place_left : Pattern → Pattern → ℕ → ℕ
place_left first second q = cond (nat_lt q first.inputs) q (second.inputs + q)

abbrev pub place_right : Pattern → Pattern → ℕ → ℕ
place_right first second q =
    cond (nat_lt q second.inputs) (first.inputs + q) (length first.names + q)

unfoldable pub side_by_side : Pattern → Pattern → Pattern
side_by_side first second = record {
  names =
      take first.inputs first.names
      ++ (take second.inputs (free_names first.names second.names)
      ++ (drop first.inputs first.names
      ++ drop second.inputs (free_names first.names second.names)));
  inputs = first.inputs + second.inputs;
  outputs =
      map (place_left first second) first.outputs
      ++ map (place_right first second) second.outputs;
  commands =
      placed_commands (place_left first second) first.commands
      ++ placed_commands (place_right first second) second.commands;
}

-- the outcomes `o` of a whole are those of its parts, by the qubits that are measured
pub record AreJoined (first second : Pattern) (left right : ℕ → ℕ) (o1 o2 o : Bits) : Type 0 where
  pub on_first : (q : ℕ) → measured first.commands q ≡ true → o (left q) ≡ o1 q
  pub on_second : (q : ℕ) → measured second.commands q ≡ true → o (right q) ≡ o2 q
