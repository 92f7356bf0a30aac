-- The rules and limits of a graph's section.
use Rattle.std.specs.Prelude.{ℕ, List, [], ◌∷◌, map, Bool, true, false, not, ◌||◌, ◌==◌, Option}
use Rattle.std.specs.Prelude.{None, Some}
use Rattle.std.specs.List.{list_all}
use Rattle.mc_model.specs.Names.{name_eq, is_held}
use Rattle.mc_text.specs.declared.head.Head.{Head}
use Rattle.mc_text.specs.declared.fault.Fault.TheVariants.{NotFixed, LineEnds, Surplus, Measured}
use Rattle.mc_text.specs.declared.fault.Fault.TheVariants.{SameOperand, EdgeTwice, ListedTwice}
use Rattle.mc_text.specs.declared.fault.Fault.TheVariants.{OutputsLack, FixedTwice}
use Rattle.mc_text.specs.Heads.{head_of}
use Rattle.mc_text.specs.Points.{point_of}
use Rattle.mc_text.specs.Judged.{Judgement, Words, Rules}
use Rattle.mc_text.specs.Rules.{broken, or_next, new_name, known_name, angle_word}
use Rattle.mc_graph_text.specs.Roles.{Role, record_word, input, vertex, end, other_end, measured}
use Rattle.mc_graph_text.specs.Roles.{angle, output, fixed_x, fixed_z, surplus, may_follow, role_of}
use Rattle.mc_graph_text.specs.Value.{Pair, Spelled, spelled_at, has_edge}

-- the names of the vertices with an angle
abbrev pub angled : Spelled → List (List ℕ)
angled s = map (λ (p : Pair). p.0) s.angles

-- the first word behind the record word of a line
abbrev pub first_in : Words → Option (List ℕ)
first_in (h ∷ a ∷ words) = Some a
first_in _ = None

-- a vertex without an angle
abbrev pub still_name : Spelled → List ℕ → Option Judgement
still_name s word =
    or_next (known_name s.names word) (broken ((is_held (angled s) word, Measured) ∷ []))

-- the other end of an edge: another vertex than the first end, and not joined to it yet
abbrev pub is_same : Option (List ℕ) → List ℕ → Bool
is_same None word = false
is_same (Some first) word = name_eq first word

abbrev pub is_joined : Spelled → Option (List ℕ) → List ℕ → Bool
is_joined s None word = false
is_joined s (Some first) word = has_edge s.edges first word

abbrev pub other_name : Spelled → Option (List ℕ) → List ℕ → Option Judgement
other_name s first word =
    or_next (known_name s.names word)
    (broken ((is_same first word, SameOperand) ∷ (is_joined s first word, EdgeTwice) ∷ []))

abbrev pub output_name : Spelled → List ℕ → Option Judgement
output_name s word =
    or_next (still_name s word) (broken ((is_held s.outputs word, ListedTwice) ∷ []))

-- a vertex that gets a correction, where these have it already
abbrev pub fixed_name : Spelled → List (List ℕ) → List ℕ → Option Judgement
fixed_name s list word =
    or_next (still_name s word) (broken ((is_held list word, FixedTwice) ∷ []))

-- a record word behind a line with the record word `last`
abbrev pub next_record : Bool → Option Head → List ℕ → Option Judgement
next_record fixes last word = broken ((not (may_follow fixes last (head_of word)), NotFixed) ∷ [])

-- a word by its role, where fixed corrections may stand or not: beside what is spelled before, the
-- first word behind the record word of its line, and the record word of the line before
abbrev pub judge_by : Bool → Spelled → Option (List ℕ) → Option Head → Role → List ℕ
    → Option Judgement
judge_by fixes s first last record_word word = next_record fixes last word
judge_by fixes s first last input word = new_name s.names word
judge_by fixes s first last vertex word = new_name s.names word
judge_by fixes s first last end word = known_name s.names word
judge_by fixes s first last other_end word = other_name s first word
judge_by fixes s first last measured word = still_name s word
judge_by fixes s first last angle word = angle_word word
judge_by fixes s first last output word = output_name s word
judge_by fixes s first last fixed_x word = fixed_name s s.xs word
judge_by fixes s first last fixed_z word = fixed_name s s.zs word
judge_by fixes s first last surplus word = broken ((true, Surplus) ∷ [])

-- whether a vertex has an angle or is an output
abbrev pub is_settled : Spelled → List ℕ → Bool
is_settled s name = is_held (angled s) name || is_held s.outputs name

-- the end of a line, by the role that a further word would have; no line is empty
abbrev pub lacks_by : Spelled → Role → Option Judgement
lacks_by s record_word = broken ((true, LineEnds) ∷ [])
lacks_by s vertex = broken ((true, LineEnds) ∷ [])
lacks_by s end = broken ((true, LineEnds) ∷ [])
lacks_by s other_end = broken ((true, LineEnds) ∷ [])
lacks_by s measured = broken ((true, LineEnds) ∷ [])
lacks_by s angle = broken ((true, LineEnds) ∷ [])
lacks_by s output = broken ((not (list_all (is_settled s) s.names), OutputsLack) ∷ [])
lacks_by s fixed_x = broken ((true, LineEnds) ∷ [])
lacks_by s fixed_z = broken ((true, LineEnds) ∷ [])
lacks_by s _ = None

-- the rules of a section in which fixed corrections may stand or not
abbrev pub rules_with : Bool → Rules
rules_with fixes = record {
  judge = λ before here word.
      let p = point_of before here in
      judge_by fixes (spelled_at before here) (first_in here) p.last (role_of p) word;
  lacks = λ before here. lacks_by (spelled_at before here) (role_of (point_of before here));
}

-- they may in version 2
abbrev pub has_fixing : ℕ → Bool
has_fixing version = version == 2

abbrev pub graph_rules : ℕ → Rules
graph_rules version = rules_with (has_fixing version)
