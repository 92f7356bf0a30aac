-- What a reader keeps of a gate list's lines, and what a word and the end of a line do to it.
use Rattle.std.specs.Prelude.{◌≡◌, ℕ, ◌+◌, ◌<◌, ◌≤◌, List, [], ◌∷◌, ◌++◌, Bool, true, false}
use Rattle.std.specs.Prelude.{map, length, filter_map, Option, Some, option_to_list}
use Rattle.std.specs.List.{list_all, IsDistinct}
use Rattle.mc_model.specs.Limits.{most_gates}
use Rattle.mc_model.specs.Names.{name_eq, is_held, place_of}
use Rattle.mc_text.specs.declared.head.Head.{Head}
use Rattle.mc_text.specs.declared.head.Head.TheVariants.{Out, End}
use Rattle.mc_text.specs.declared.point.Point.{Point}
use Rattle.mc_text.specs.Heads.{head_of, head_in}
use Rattle.mc_text.specs.Points.{last_head}
use Rattle.mc_text.specs.Judged.{Words, Lines}
use Rattle.mc_text.specs.Rules.{AreNumbers}
use Rattle.mc_text.specs.Lists.{names_in, names_at, added, count_of}
use Rattle.mc_circuit.specs.Roles.{is_defining, is_input, is_output}
use Rattle.mc_gates.specs.Gates.{Op, OpsFit}
use Rattle.mc_gates.specs.Ops.{plain_op}
use Rattle.mc_gates_text.specs.declared.reader.Reader.{Reader}
use Rattle.mc_gates_text.specs.Words.{arity, is_gate, op_with}
use Rattle.mc_gates_text.specs.Roles.{may_follow}
use Rattle.mc_gates_text.specs.Value.{op_in}

-- the line may stand behind one with this record word
abbrev pub opens : Option Head → Words → Bool
opens last [] = true
opens last (h ∷ words) = may_follow last (head_of h)

-- a list of outputs stands before
abbrev pub is_closed : Option Head → Bool
is_closed (Some Out) = true
is_closed (Some End) = true
is_closed _ = false

-- what is kept of the lines so far: the names of the wires, of which so many are inputs, the
-- operations and the outputs, and the operands of the current line
pub record State : Type 0 where
  pub names : List (List ℕ)
  pub inputs : ℕ
  pub ops : List Op
  pub outputs : List ℕ
  pub operands : List ℕ

abbrev pub state_of : Reader → State
state_of k = record {
  names = k.names;
  inputs = k.inputs;
  ops = map plain_op k.ops.items;
  outputs = k.outputs.items;
  operands = k.operands.items;
}

-- numbers are those of the names so far, whatever names come behind them
pub record IsKept (k : State) (before : Lines) (here : Words) : Type 0 where
  pub names : k.names ≡ names_at is_defining before here
  pub inputs : k.inputs ≡ length (names_at is_input before here)
  pub outputs : AreNumbers k.names (names_at is_output before here) k.outputs
  pub distinct : IsDistinct name_eq (names_at is_output before here)
  pub operands : AreNumbers k.names (names_in is_gate here) k.operands
  pub apart : IsDistinct name_eq (names_in is_gate here)
  pub within : length (names_in is_gate here) ≤ arity (head_in here)
  pub ops : (more : List (List ℕ))
      → k.ops ≡ filter_map (op_in (k.names ++ more)) before
  pub fits : OpsFit (length k.names) k.ops
  pub count : length k.ops ≡ count_of is_gate before []
  pub few : length k.ops ≤ most_gates
  pub room : is_gate (head_in here) ≡ true → length k.ops < most_gates
  pub order : opens (last_head before) here ≡ true
  pub complete : is_closed (last_head before) ≡ true
      → list_all (is_held (names_at is_output before here)) k.names ≡ true

-- what stands before a word: the outputs so far, and the earlier operands of its line
pub record Stands (k : State) (listed earlier : List (List ℕ)) : Type 0 where
  pub outputs : AreNumbers k.names listed k.outputs
  pub operands : AreNumbers k.names earlier k.operands

-- a name is added to a list of numbers, where there is one
abbrev pub Lists : List (List ℕ) → List ℕ → List ℕ → List (List ℕ) → Type 0
Lists names numbers numbers' [] = numbers' ≡ numbers
Lists names numbers numbers' (word ∷ words) =
    (q : ℕ) × (place_of names word ≡ Some q) × (numbers' ≡ numbers ++ q ∷ [])

-- what a word with nothing against it does
pub record Moves (k k' : State) (p : Point) (word : List ℕ) : Type 0 where
  pub names : k'.names ≡ k.names ++ added is_defining p word
  pub inputs : k'.inputs ≡ k.inputs + length (added is_input p word)
  pub outputs : Lists k'.names k.outputs k'.outputs (added is_output p word)
  pub operands : Lists k'.names k.operands k'.operands (added is_gate p word)
  pub ops : k'.ops ≡ k.ops

-- what the end of a line with nothing against it does
pub record Ends (k k' : State) (p : Point) : Type 0 where
  pub names : k'.names ≡ k.names
  pub inputs : k'.inputs ≡ k.inputs
  pub outputs : k'.outputs ≡ k.outputs
  pub operands : k'.operands ≡ []
  pub ops : k'.ops
      ≡ k.ops ++ option_to_list (op_with p.head k.operands)
