-- What a reader keeps of a circuit's lines, and what a word and the end of a line do to it.
use Rattle.std.specs.Prelude.{◌≡◌, ℕ, ◌+◌, ◌<◌, ◌≤◌, List, [], ◌∷◌, ◌++◌, Bool, true, false}
use Rattle.std.specs.Prelude.{◌==◌}
use Rattle.std.specs.Prelude.{map, length, if◌then◌else◌, Option, None, Some, option_to_list}
use Rattle.std.specs.List.{list_all, IsDistinct}
use Rattle.std.specs.Option.{option_map}
use Rattle.mc_angle.specs.Angle.{angle_of}
use Rattle.mc_model.specs.Limits.{most_gates}
use Rattle.mc_model.specs.Names.{name_eq, is_held, place_of}
use Rattle.mc_model.specs.Pattern as plain
use Rattle.mc_model.specs.Valid.{GatesFit}
use Rattle.mc_text.specs.declared.head.Head.{Head}
use Rattle.mc_text.specs.declared.head.Head.TheVariants.{J, Cz, Out, End}
use Rattle.mc_text.specs.declared.point.Point.{Point}
use Rattle.mc_text.specs.Heads.{head_of, head_in}
use Rattle.mc_text.specs.Points.{last_head}
use Rattle.mc_text.specs.Judged.{Words, Lines}
use Rattle.mc_text.specs.Rules.{number_in, AreNumbers}
use Rattle.mc_text.specs.Lists.{names_at, added, operand_at}
use Rattle.mc_circuit.specs.declared.gate.Gate.{Gate}
use Rattle.mc_circuit.specs.declared.reader.Reader.{Reader}
use Rattle.mc_circuit.specs.Gates.{plain_gate}
use Rattle.mc_circuit.specs.Circuits.{AnglesFit}
use Rattle.mc_circuit.specs.Roles.{may_follow, role_of, is_defining, is_input, is_gate, is_output}
use Rattle.mc_circuit.specs.Value.{spelled_gate, spelled_gates, gate_by}
use Rattle.mc_circuit.specs.Judge.{judge_by, lacks_by, second_word}

-- gates on so many wires, with angles of less than a turn
pub record AreGates (half wires : ℕ) (gates : List plain.Gate) : Type 0 where
  pub fit : GatesFit wires gates
  pub angles : AnglesFit half gates

-- the line may stand behind one with this record word
abbrev pub opens : Option Head → Words → Bool
opens last [] = true
opens last (h ∷ words) = may_follow last (head_of h)

-- a list of outputs stands before
abbrev pub is_closed : Option Head → Bool
is_closed (Some Out) = true
is_closed (Some End) = true
is_closed _ = false

-- numbers are those of the names so far, whatever names come behind them
pub record IsKept {half : ℕ} (k : Reader half) (before : Lines) (here : Words) : Type 0 where
  pub names : k.names ≡ names_at is_defining before here
  pub inputs : k.inputs ≡ length (names_at is_input before here)
  pub outputs : AreNumbers k.names (names_at is_output before here) k.outputs.items
  pub distinct : IsDistinct name_eq (names_at is_output before here)
  pub operand : (a : List ℕ) → operand_at 0 is_gate here ≡ Some a
      → place_of k.names a ≡ Some k.operand
  pub gate : (more : List (List ℕ)) → option_map (plain_gate {h = half}) k.gate
      ≡ option_map (gate_by half (k.names ++ more)) (spelled_gate here)
  pub gates : (more : List (List ℕ)) → map (plain_gate {h = half}) k.gates.items
      ≡ map (gate_by half (k.names ++ more)) (spelled_gates before)
  pub gate_fits : AreGates half (length k.names) (map (plain_gate {h = half}) (option_to_list k.gate))
  pub fits : AreGates half (length k.names) (map (plain_gate {h = half}) k.gates.items)
  pub few : length k.gates.items ≤ most_gates
  pub room : is_gate (head_in here) ≡ true → length k.gates.items < most_gates
  pub order : opens (last_head before) here ≡ true
  pub complete : is_closed (last_head before) ≡ true
      → list_all (is_held (names_at is_output before here)) k.names ≡ true

-- the first operand of a line has this number
pub record IsOperand (names : List (List ℕ)) (first : Option (List ℕ)) (number : ℕ) : Type 0 where
  pub name : List ℕ
  pub is : first ≡ Some name
  pub place : place_of names name ≡ Some number

-- what stands before a word
pub record Stands {half : ℕ} (k : Reader half) (p : Point) (listed : List (List ℕ))
    (first : Option (List ℕ)) : Type 0 where
  pub are : AreNumbers k.names listed k.outputs.items
  pub operand : p.count ≡ 2 → is_gate p.head ≡ true → IsOperand k.names first k.operand

-- a second operand makes a gate whole
pub record TakesSecond {half : ℕ} (names : List (List ℕ)) (operand : ℕ) (gate : Option (Gate half))
    (word : List ℕ) : Type 0 where
  pub clean : (first : Option (List ℕ)) → IsOperand names first operand
      → second_word names first word ≡ None
  pub number : ℕ
  pub place : place_of names word ≡ Some number
  pub gate_is : option_map (plain_gate {h = half}) gate ≡ Some (plain.CZ operand number)
  pub apart : operand ≡ number → ⊥

-- an output is listed, where there is one
abbrev pub Lists : List (List ℕ) → List ℕ → List ℕ → List (List ℕ) → Type 0
Lists names outputs outputs' [] = outputs' ≡ outputs
Lists names outputs outputs' (word ∷ words) =
    (q : ℕ) × (place_of names word ≡ Some q) × (outputs' ≡ outputs ++ q ∷ [])

abbrev pub gate_with : Option Head → ℕ → ℕ → ℕ → Option plain.Gate
gate_with (Some J) wire other steps = Some (plain.J wire steps)
gate_with (Some Cz) wire other steps = Some (plain.CZ wire other)
gate_with _ wire other steps = None

-- the gate that a word makes whole
abbrev pub next_gate : ℕ → List (List ℕ) → Point → ℕ → List ℕ → Option plain.Gate
next_gate half names p wire word =
    if p.count == 2 then gate_with p.head wire (number_in names word) (angle_of half word) else None

-- what a word with nothing against it does
pub record Moves {half : ℕ} (k k' : Reader half) (p : Point) (word : List ℕ) : Type 0 where
  pub clean : (listed : List (List ℕ)) (first : Option (List ℕ)) → Stands k p listed first
      → judge_by k.names listed first (length k.gates.items) p.last (role_of p) word ≡ None
  pub names : k'.names ≡ k.names ++ added is_defining p word
  pub inputs : k'.inputs ≡ k.inputs + length (added is_input p word)
  pub outputs : Lists k'.names k.outputs.items k'.outputs.items (added is_output p word)
  pub operand : p.count ≡ 1 → is_gate p.head ≡ true → place_of k'.names word ≡ Some k'.operand
  pub same_operand : ¬ (p.count ≡ 1) → k'.operand ≡ k.operand
  pub gate : (more : List (List ℕ)) → option_map (plain_gate {h = half}) k'.gate
      ≡ next_gate half (k'.names ++ more) p k.operand word
  pub gate_fits : (listed : List (List ℕ)) (first : Option (List ℕ)) → Stands k p listed first
      → AreGates half (length k'.names) (map (plain_gate {h = half}) (option_to_list k'.gate))
  pub gates : k'.gates.items ≡ k.gates.items

-- what the end of a line with nothing against it does
pub record Ends {half : ℕ} (k k' : Reader half) (p : Point) : Type 0 where
  pub clean : (listed : List (List ℕ)) → AreNumbers k.names listed k.outputs.items
      → lacks_by k.names listed (role_of p) ≡ None
  pub names : k'.names ≡ k.names
  pub inputs : k'.inputs ≡ k.inputs
  pub outputs : k'.outputs.items ≡ k.outputs.items
  pub gate : k'.gate ≡ None
  pub gates : k'.gates.items ≡ k.gates.items ++ option_to_list k.gate
