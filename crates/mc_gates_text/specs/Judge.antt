-- The rules and limits of a gate list's section.
use Rattle.std.specs.Prelude.{ℕ, suc, List, [], ◌∷◌, true, not, ◌&&◌, nat_le, Option, None}
use Rattle.std.specs.List.{list_all}
use Rattle.mc_model.specs.Limits.{most_gates}
use Rattle.mc_model.specs.Names.{is_held}
use Rattle.mc_text.specs.declared.head.Head.{Head}
use Rattle.mc_text.specs.declared.fault.Fault.TheVariants.{NotFixed, LineEnds, Surplus, SameOperand}
use Rattle.mc_text.specs.declared.fault.Fault.TheVariants.{OutputsLack}
use Rattle.mc_text.specs.Heads.{head_of}
use Rattle.mc_text.specs.Points.{point_of}
use Rattle.mc_text.specs.Judged.{Judgement, Rules}
use Rattle.mc_text.specs.Rules.{broken, passed, or_next, new_name, known_name, listed_name}
use Rattle.mc_text.specs.Lists.{names_in, names_at, count_of}
use Rattle.mc_circuit.specs.Roles.{is_defining, is_output}
use Rattle.mc_gates_text.specs.Words.{is_gate}
use Rattle.mc_gates_text.specs.Roles.{Role, record_word, defined, operand, output, surplus}
use Rattle.mc_gates_text.specs.Roles.{may_follow, role_of}

-- an operand of a gate, behind earlier ones of its line
abbrev pub operand_word : List (List ℕ) → List (List ℕ) → List ℕ → Option Judgement
operand_word names earlier word =
    or_next (known_name names word) (broken ((is_held earlier word, SameOperand) ∷ []))

-- a word by its role: beside the names that are defined, those that are listed before, the earlier
-- operands of its line, the number of gates before, and the record word of the line before
abbrev pub judge_by : List (List ℕ) → List (List ℕ) → List (List ℕ) → ℕ → Option Head → Role
    → List ℕ → Option Judgement
judge_by names listed earlier gates last record_word word =
    or_next (broken ((not (may_follow last (head_of word)), NotFixed) ∷ []))
    (passed (is_gate (head_of word) && nat_le most_gates gates) 3 (suc most_gates))
judge_by names listed earlier gates last defined word = new_name names word
judge_by names listed earlier gates last operand word = operand_word names earlier word
judge_by names listed earlier gates last output word = listed_name names listed word
judge_by names listed earlier gates last surplus word = broken ((true, Surplus) ∷ [])

-- the end of a line, by the role that a further word would have
abbrev pub lacks_by : List (List ℕ) → List (List ℕ) → Role → Option Judgement
lacks_by names listed operand = broken ((true, LineEnds) ∷ [])
lacks_by names listed output =
    broken ((not (list_all (is_held listed) names), OutputsLack) ∷ [])
lacks_by names listed _ = None

abbrev pub gates_rules : Rules
gates_rules = record {
  judge = λ before here word.
      let p = point_of before here in
      judge_by (names_at is_defining before here) (names_at is_output before here)
      (names_in is_gate here) (count_of is_gate before []) p.last (role_of p) word;
  lacks = λ before here.
      lacks_by (names_at is_defining before here) (names_at is_output before here)
      (role_of (point_of before here));
}
