-- The section of a trace: its table, its rules and its limit, and the uses that lines spell.
use Rattle.std.specs.Prelude.{ℕ, suc, ◌≤◌, All, List, [], ◌∷◌, Bool, true, false, not, ◌&&◌, ◌==◌}
use Rattle.std.specs.Prelude.{nat_le, length, filter_map, if◌then◌else◌, Option, None, Some}
use Rattle.mc_model.specs.Derivation as plain
use Rattle.mc_model.specs.Derivation.{Use}
use Rattle.mc_angle.specs.Number.{number_of}
use Rattle.mc_text.specs.declared.head.Head.{Head}
use Rattle.mc_text.specs.declared.head.Head.TheVariants.{U, End}
use Rattle.mc_text.specs.declared.point.Point.{Point}
use Rattle.mc_text.specs.declared.fault.Fault.TheVariants as fault
use Rattle.mc_text.specs.Heads.{head_of}
use Rattle.mc_text.specs.Points.{point_of}
use Rattle.mc_text.specs.Judged.{Judgement, Words, Lines, Rules}
use Rattle.mc_text.specs.Rules.{broken, passed, or_next, number_word}
use Rattle.mc_trace_text.specs.declared.section.Role.{Role}
use Rattle.mc_trace_text.specs.declared.section.Role.TheVariants.{Record, Place, Rule, Surplus}
use Rattle.mc_trace_text.specs.Words.{rule_of}

-- the most uses that a text may say
abbrev pub most_uses : ℕ
most_uses = 65536

-- uses, and behind them `end`
abbrev pub follows_in_trace : Option Head → Option Head → Bool
follows_in_trace None (Some U) = true
follows_in_trace None (Some End) = true
follows_in_trace (Some U) (Some U) = true
follows_in_trace (Some U) (Some End) = true
follows_in_trace _ _ = false

abbrev pub is_use : Option Head → Bool
is_use (Some U) = true
is_use _ = false

-- what a further word of a line is
abbrev pub role_of : Point → Role
role_of p =
    if p.count == 0 then Record
    else (if is_use p.head && (p.count == 1) then Place
    else (if is_use p.head && (p.count == 2) then Rule else Surplus))

-- the use that a line spells
abbrev pub use_by : Option Head → ℕ → Option plain.Rule → Option Use
use_by (Some U) n (Some rule) = Some (record { place = n; rule = rule })
use_by _ n _ = None

abbrev pub spelled_use : Words → Option Use
spelled_use (h ∷ number ∷ word ∷ []) = use_by (head_of h) (number_of number) (rule_of word)
spelled_use _ = None

abbrev pub uses_in : Lines → List Use
uses_in lines = filter_map spelled_use lines

abbrev pub is_rule : List ℕ → Bool
is_rule word = is_there (rule_of word)
  where
    is_there : Option plain.Rule → Bool
    is_there None = false
    is_there (Some rule) = true

-- a word by its role, behind so many uses and a line with this record word
abbrev pub judge_by : ℕ → Option Head → Role → List ℕ → Option Judgement
judge_by uses last Record word =
    or_next (broken ((not (follows_in_trace last (head_of word)), fault.NotFixed) ∷ []))
    (passed (is_use (head_of word) && nat_le most_uses uses) 7 (suc most_uses))
judge_by uses last Place word = number_word word
judge_by uses last Rule word = broken ((not (is_rule word), fault.NotFixed) ∷ [])
judge_by uses last Surplus word = broken ((true, fault.Surplus) ∷ [])

-- the end of a line, by the role that a further word would have; no line is empty
abbrev pub lacks_by : Role → Option Judgement
lacks_by Surplus = None
lacks_by _ = broken ((true, fault.LineEnds) ∷ [])

abbrev pub trace_rules : Rules
trace_rules = record {
  judge = λ before here word.
      let p = point_of before here in
      judge_by (length (uses_in before)) p.last (role_of p) word;
  lacks = λ before here. lacks_by (role_of (point_of before here));
}

-- uses that a text may say: not too many of them, each with a place of at most four digits
pub record CanBeWritten (uses : List Use) : Type 0 where
  pub few : length uses ≤ most_uses
  pub places : All (λ u. u.place ≤ 9999) uses
