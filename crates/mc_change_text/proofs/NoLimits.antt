-- Sections of changes pass no limit.
use Rattle.std.proofs.Common.{◌≡◌, ℕ, List, [], ◌∷◌, ◌++◌, Bool, true, false, not, ◌&&◌, Option}
use Rattle.std.proofs.Common.{Some, None, refl, if◌then◌else◌, codes, length, nat_lt, slice_get}
use Rattle.mc_lex.specs.declared.end.TextEnd.TheVariants as end
use Rattle.mc_lex.specs.Lines.{Item, word, bad, Line}
use Rattle.mc_model.specs.Names.{Name, is_name, is_held}
use Rattle.mc_model.specs.Numbers.{is_member}
use Rattle.mc_angle.specs.Number.{is_number}
use Rattle.mc_text.specs.declared.head.Head.{Head}
use Rattle.mc_text.specs.declared.fault.Fault.{Fault}
use Rattle.mc_text.specs.declared.fault.Fault.TheVariants.{NotFixed, Surplus, NotName, NotDefined}
use Rattle.mc_text.specs.declared.fault.Fault.TheVariants.{ListedTwice, NotNumber, NotMeasured}
use Rattle.mc_text.specs.declared.fault.Fault.TheVariants.{OtherRow, LineEnds, StrayByte, TextEnds}
use Rattle.mc_text.specs.Heads.{head_of, is_word, is_end}
use Rattle.mc_text.specs.Points.{point_of}
use Rattle.mc_text.specs.Judged.{Judgement, fault, limit, Place, Words, Lines, Rules, placed}
use Rattle.mc_text.specs.Judged.{or_later, first_in_line, first_in_section, is_last, words_of}
use Rattle.mc_text.specs.Rules.{broken, or_next, known_name, listed_name, number_in}
use Rattle.mc_text.specs.Stops.{IsEnd, answered}
use Rattle.mc_rows.specs.declared.row.Row.{Row}
use Rattle.mc_rows.specs.declared.row.Role.{Role}
use Rattle.mc_rows.specs.declared.row.Role.TheVariants as role
use Rattle.mc_rows.specs.Rows.{is_one, has_one, named, rows_in, row_in, members_in, role_at}
use Rattle.mc_rows.specs.Judge.{judge_by, lacks_by, row_rules}
use Rattle.mc_change_text.specs.Kinds.{follows_in_change, change_shape, change_kind, is_this}
use Rattle.mc_change_text.specs.Kinds.{names_of}

-- what is judged is never a limit
IsFault : Option Judgement → Type 0
IsFault judged = (which found : ℕ) → judged ≡ Some (limit which found) → ⊥

abbrev judged_first : Option (Judgement × Place) → Option Judgement
judged_first None = None
judged_first (Some first) = Some first.0

none_fault : IsFault None
unfolding IsFault
none_fault which found e = absurd (cc e)

fault_fault : (rule : Fault) → IsFault (Some (fault rule))
unfolding IsFault
fault_fault rule which found e = absurd (cc e)

broken_fault : (rules : List (Bool × Fault)) → IsFault (broken rules)
broken_fault [] = none_fault
broken_fault (rule ∷ rules) = by_test rule.0 (broken_fault rules)
  where
    by_test : (t : Bool) → IsFault (broken rules)
        → IsFault (if t then Some (fault rule.1) else broken rules)
    by_test true rest = fault_fault rule.1
    by_test false rest = rest

next_fault : (a b : Option Judgement) → IsFault a → IsFault b → IsFault (or_next a b)
next_fault None b free none = none
next_fault (Some judged) b free none = free

placed_fault : (place : Place) (judged : Option Judgement) → IsFault judged
    → IsFault (judged_first (placed place judged))
placed_fault place None free = free
placed_fault place (Some judged) free = free

later_fault : (first later : Option (Judgement × Place)) → IsFault (judged_first first)
    → IsFault (judged_first later) → IsFault (judged_first (or_later first later))
later_fault None later free none = none
later_fault (Some first) later free none = free

either_fault : (t : Bool) (a b : Option Judgement) → IsFault a → IsFault b
    → IsFault (if t then a else b)
either_fault true a b free none = free
either_fault false a b free none = none

module _ (names : List Name) (second : Bool) (order : List ℕ) where
  abbrev rules : Rules
  rules = row_rules (change_kind second order) names

  known_fault : (w : List ℕ) → IsFault (known_name names w)
  known_fault w =
      broken_fault ((not (is_name w), NotName) ∷ (not (is_held names w), NotDefined) ∷ [])

  judge_fault : (rows : List Row) (row : Row) (list : Words) (last : Option Head) (r : Role)
      (w : List ℕ) → IsFault (judge_by (change_kind second order) names rows row list last r w)
  judge_fault rows row list last role.Record w =
      let other = (not (follows_in_change last (head_of w)), NotFixed) ∷ [] in
      let early = (is_end (head_of w) && nat_lt (length rows) (length order), OtherRow) ∷ [] in
      next_fault (broken other) (broken early) (broken_fault other) (broken_fault early)
  judge_fault rows row list last role.Number w =
      broken_fault ((not (is_number w), NotNumber) ∷ [])
  judge_fault rows row list last role.Name w =
      let due = is_this (slice_get order (length rows)) (number_in names w) in
      next_fault (known_name names w) (broken ((not due, OtherRow) ∷ [])) (known_fault w)
      (broken_fault ((not due, OtherRow) ∷ []))
  judge_fault rows row list last role.Colon w =
      broken_fault ((not (is_word (codes ":") w), NotFixed) ∷ [])
  judge_fault rows row list last role.Member w =
      let twice = (is_held (named list) w, ListedTwice) ∷ [] in
      let again = (has_one list, ListedTwice) ∷ [] in
      let late = (not (is_member (names_of rows) (number_in names w)), NotMeasured) ∷ [] in
      let listed = listed_name names (named list) w in
      either_fault (second && is_one w) (broken again) (or_next listed (broken late))
      (broken_fault again)
      (next_fault listed (broken late)
      (next_fault (known_name names w) (broken twice) (known_fault w) (broken_fault twice))
      (broken_fault late))
  judge_fault rows row list last role.Surplus w = broken_fault ((true, Surplus) ∷ [])

  lacks_fault : (r : Role) → IsFault (lacks_by r)
  lacks_fault role.Member = none_fault
  lacks_fault role.Surplus = none_fault
  lacks_fault _ = fault_fault LineEnds

  line_fault : (before : Lines) (here : Words) (items : List Item) (lack : Place)
      → IsFault (judged_first (first_in_line rules before here items lack))
  line_fault before here [] lack =
      let r = role_at change_shape (point_of before here) in
      placed_fault lack (lacks_by r) (lacks_fault r)
  line_fault before here (word bytes line column ∷ items) lack =
      later_fault (placed (line, column) (rules.judge before here bytes))
      (first_in_line rules before (here ++ bytes ∷ []) items lack)
      (placed_fault (line, column) (rules.judge before here bytes)
      (judge_fault (rows_in change_shape names before) (row_in change_shape names here)
      (members_in change_shape here) (point_of before here).last
      (role_at change_shape (point_of before here)) bytes))
      (line_fault before (here ++ bytes ∷ []) items lack)
  line_fault before here (bad line column ∷ items) lack = fault_fault StrayByte

  section_fault : (before : Lines) (lines : List Line) (last : Place)
      → IsFault (judged_first (first_in_section rules before lines last))
  section_fault before [] last = fault_fault TextEnds
  section_fault before (line ∷ lines) last =
      later_fault (first_in_line rules before [] line.items line.lack) _
      (line_fault before [] line.items line.lack)
      (behind (is_last line) (section_fault (before ++ words_of line.items ∷ []) lines last))
    where
      behind : (t : Bool)
          → IsFault
          (judged_first (first_in_section rules (before ++ words_of line.items ∷ []) lines last))
          → IsFault (judged_first
          (if t then None
          else first_in_section rules (before ++ words_of line.items ∷ []) lines last))
      behind true rest = none_fault
      behind false rest = rest

answer_limit : (first : Option (Judgement × Place)) (which found : ℕ)
    → answered first ≡ Some (end.Limit which found) → IsFault (judged_first first) → ⊥
unfolding IsFault
answer_limit None which found e free = absurd (cc e)
answer_limit (Some (fault broken, place)) which found e free = absurd (cc e)
answer_limit (Some (limit w f, place)) which found e free = free w f refl

pub change_no_limit : (names : List Name) (second : Bool) (order : List ℕ) (lines : List Line)
    (last : Place) (which found : ℕ)
    → IsEnd (end.Limit which found)
    (first_in_section (row_rules (change_kind second order) names) [] lines last) → ⊥
change_no_limit names second order lines last which found e =
    answer_limit (first_in_section (row_rules (change_kind second order) names) [] lines last) which
    found e (section_fault names second order [] lines last)
