-- The rules and limits of a circuit's section.
use Rattle.std.specs.Prelude.{ℕ, suc, List, [], ◌∷◌, Bool, true, false, not, ◌&&◌, nat_le, length}
use Rattle.std.specs.Prelude.{Option, None, Some}
use Rattle.std.specs.List.{list_all}
use Rattle.mc_model.specs.Limits.{most_gates}
use Rattle.mc_model.specs.Names.{name_eq, is_held}
use Rattle.mc_text.specs.declared.head.Head.{Head}
use Rattle.mc_text.specs.declared.fault.Fault.TheVariants.{NotFixed, LineEnds, Surplus, SameOperand}
use Rattle.mc_text.specs.declared.fault.Fault.TheVariants.{OutputsLack}
use Rattle.mc_text.specs.Heads.{head_of}
use Rattle.mc_text.specs.Points.{point_of}
use Rattle.mc_text.specs.Judged.{Judgement, Rules}
use Rattle.mc_text.specs.Rules.{broken, passed, or_next, new_name, known_name, listed_name}
use Rattle.mc_text.specs.Rules.{angle_word}
use Rattle.mc_text.specs.Lists.{names_at, operand_at}
use Rattle.mc_circuit.specs.Roles.{Role, record_word, defined, operand, angle, second, output}
use Rattle.mc_circuit.specs.Roles.{surplus, may_follow, role_of, is_defining, is_gate, is_output}
use Rattle.mc_circuit.specs.Value.{spelled_gates}

-- whether a word is the first operand
abbrev pub is_same : Option (List ℕ) → List ℕ → Bool
is_same None word = false
is_same (Some first) word = name_eq first word

-- a second operand
abbrev pub second_word : List (List ℕ) → Option (List ℕ) → List ℕ → Option Judgement
second_word names first word =
    or_next (known_name names word) (broken ((is_same first word, SameOperand) ∷ []))

-- a word by its role: beside the names that are defined and those that are listed before, the first
-- operand of its line, the number of gates before, and the record word of the line before
abbrev pub judge_by : List (List ℕ) → List (List ℕ) → Option (List ℕ) → ℕ → Option Head → Role
    → List ℕ → Option Judgement
judge_by names listed first gates last record_word word =
    or_next (broken ((not (may_follow last (head_of word)), NotFixed) ∷ []))
    (passed (is_gate (head_of word) && nat_le most_gates gates) 3 (suc most_gates))
judge_by names listed first gates last defined word = new_name names word
judge_by names listed first gates last operand word = known_name names word
judge_by names listed first gates last angle word = angle_word word
judge_by names listed first gates last second word = second_word names first word
judge_by names listed first gates last output word = listed_name names listed word
judge_by names listed first gates last surplus word = broken ((true, Surplus) ∷ [])

-- the end of a line, by the role that a further word would have
abbrev pub lacks_by : List (List ℕ) → List (List ℕ) → Role → Option Judgement
lacks_by names listed operand = broken ((true, LineEnds) ∷ [])
lacks_by names listed angle = broken ((true, LineEnds) ∷ [])
lacks_by names listed second = broken ((true, LineEnds) ∷ [])
lacks_by names listed output =
    broken ((not (list_all (is_held listed) names), OutputsLack) ∷ [])
lacks_by names listed _ = None

abbrev pub circuit_rules : Rules
circuit_rules = record {
  judge = λ before here word.
      let p = point_of before here in
      judge_by (names_at is_defining before here) (names_at is_output before here)
      (operand_at 0 is_gate here) (length (spelled_gates before)) p.last (role_of p) word;
  lacks = λ before here.
      lacks_by (names_at is_defining before here) (names_at is_output before here)
      (role_of (point_of before here));
}
