-- Chained patterns and patterns side by side keep angles and signals as the code has them.
use Rattle.std.proofs.Common.{◌≡◌, ℕ, ◌+◌, ◌-◌, ◌≤◌, length, map, List, [], ◌∷◌, ◌++◌, arith}
use Rattle.mc_model.specs.Signals.{Signal}
use Rattle.mc_model.specs.Pattern.{Command, Prep, Ent, Meas, FixX, FixZ, Pattern}
use Rattle.mc_model.proofs.SignalLemmas.{toggled_all_rising}
use Rattle.mc_pattern.specs.Typed.{IsSet, AllTyped}
use Rattle.mc_pattern.specs.Patterns.{IsPattern}
use Rattle.mc_compose.specs.Composed.{placed_signal, placed_command, placed_commands, place_behind}
use Rattle.mc_compose.specs.Composed.{place_left, place_right, chained, side_by_side}
use Rattle.mc_compose.proofs.ValidPatterns.{chains_are_valid, sides_are_valid, chain_size}
use Rattle.mc_compose.proofs.ValidPatterns.{side_size}

set_placed : (at : ℕ → ℕ) (s : Signal) → IsSet (placed_signal at s)
unfolding placed_signal
set_placed at s = toggled_all_rising (map at s.members) [] tt

typed_placed : (half : ℕ) (at : ℕ → ℕ) (cs : List Command) → AllTyped half cs →
    AllTyped half (placed_commands at cs)
unfolding placed_command
typed_placed half at [] typed = tt
typed_placed half at (Prep q ∷ cs) typed = (tt, typed_placed half at cs typed.1)
typed_placed half at (Ent q r ∷ cs) typed = (tt, typed_placed half at cs typed.1)
typed_placed half at (Meas q a s t ∷ cs) typed = (
  (typed.0.0, set_placed at s, set_placed at t),
  typed_placed half at cs typed.1,
)
typed_placed half at (FixX q s ∷ cs) typed =
    (set_placed at s, typed_placed half at cs typed.1)
typed_placed half at (FixZ q s ∷ cs) typed =
    (set_placed at s, typed_placed half at cs typed.1)

typed-append : (half : ℕ) (cs ds : List Command) → AllTyped half cs → AllTyped half ds →
    AllTyped half (cs ++ ds)
typed-append half [] ds left right = right
typed-append half (c ∷ cs) ds left right = (left.0, typed-append half cs ds left.1 right)

pub chains_are_patterns : (half : ℕ) (first second : Pattern) → IsPattern half first →
    IsPattern half second → length first.outputs ≡ second.inputs →
    length first.names + (length second.names - second.inputs) ≤ 256 →
    length first.commands + length second.commands ≤ 262144 →
    IsPattern half (chained first second)
unfolding chained
chains_are_patterns half first second p1 p2 fit qubits commands =
    let size = chain_size first second in
    record {
      permitted = p1.permitted;
      valid = chains_are_valid first second p1.valid p2.valid fit qubits;
      few = omega arith;
      typed =
          typed-append half first.commands
          (placed_commands (place_behind first second) second.commands) p1.typed
          (typed_placed half (place_behind first second) second.commands p2.typed);
    }

pub sides_are_patterns : (half : ℕ) (first second : Pattern) → IsPattern half first →
    IsPattern half second → length first.names + length second.names ≤ 256 →
    length first.commands + length second.commands ≤ 262144 →
    IsPattern half (side_by_side first second)
unfolding side_by_side
sides_are_patterns half first second p1 p2 qubits commands =
    let size = side_size first second in
    record {
      permitted = p1.permitted;
      valid = sides_are_valid first second p1.valid p2.valid qubits;
      few = omega arith;
      typed =
          typed-append half (placed_commands (place_left first second) first.commands)
          (placed_commands (place_right first second) second.commands)
          (typed_placed half (place_left first second) first.commands p1.typed)
          (typed_placed half (place_right first second) second.commands p2.typed);
    }
