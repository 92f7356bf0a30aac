-- Sections of certificates pass no limit.
use Rattle.std.proofs.Common.{◌≡◌, ℕ, List, [], ◌∷◌, ◌++◌, Bool, true, false, not, ◌&&◌, Option}
use Rattle.std.proofs.Common.{Some}
use Rattle.std.proofs.Common.{None, refl, if◌then◌else◌, codes}
use Rattle.mc_lex.specs.declared.end.TextEnd.TheVariants as end
use Rattle.mc_lex.specs.Lines.{Item, word, bad, Line}
use Rattle.mc_model.specs.Names.{Name, is_name, is_held}
use Rattle.mc_angle.specs.Number as spelled
use Rattle.mc_text.specs.declared.head.Head.{Head}
use Rattle.mc_text.specs.declared.fault.Fault.{Fault}
use Rattle.mc_text.specs.declared.fault.Fault.TheVariants.{NotFixed, Surplus, NotName, NotDefined}
use Rattle.mc_text.specs.declared.fault.Fault.TheVariants.{ListedTwice, RowTwice, NotNumber}
use Rattle.mc_text.specs.Heads.{head_of, is_word}
use Rattle.mc_text.specs.Judged.{Judgement, fault, limit, Place, Words, Lines, Rules, placed}
use Rattle.mc_text.specs.Judged.{or_later, first_in_line, first_in_section, is_last, words_of}
use Rattle.mc_text.specs.Rules.{broken, or_next, known_name, listed_name, number_in}
use Rattle.mc_text.specs.Stops.{IsEnd, answered}
use Rattle.mc_rows.specs.declared.row.Row.{Row}
use Rattle.mc_rows.specs.declared.row.Role.{Role}
use Rattle.mc_rows.specs.declared.row.Role.TheVariants as role
use Rattle.mc_rows.specs.Rows.{is_one, has_one, named, rows_in, row_in}
use Rattle.mc_rows.specs.Rows.{members_in}
use Rattle.mc_rows.specs.Judge.{Kind as RowKind, judge_by, lacks_by, row_rules}
use Rattle.mc_graph.specs.RowLists.{has_row}
use Rattle.mc_graph.specs.Refuters.{refuted_in}
use Rattle.mc_lex.specs.declared.kind.Kind.{Kind}
use Rattle.mc_lex.specs.declared.kind.Kind.TheVariants.{Flow, NoFlow, NoCausal, Least}
use Rattle.mc_cert_text.specs.Value.{flow_in, refuter_in, least_in}
use Rattle.mc_cert_text.specs.Kinds.{IsCertKind, flow_kind, refuter_kind, stuck_kind, least_kind}
use Rattle.mc_cert_text.specs.Kinds.{has_bound_row, cert_rules}

abbrev IsFault : Option Judgement → Type 0
IsFault judged = (which found : ℕ) → judged ≡ Some (limit which found) → ⊥

-- what is judged is never a limit
record HasNoLimits (rules : Rules) : Type 0 where
  judge : (before : Lines) (here : Words) (word : List ℕ) → IsFault (rules.judge before here word)
  lacks : (before : Lines) (here : Words) → IsFault (rules.lacks before here)

abbrev judged_first : Option (Judgement × Place) → Option Judgement
judged_first None = None
judged_first (Some first) = Some first.0

abbrev IsFirstFault : Option (Judgement × Place) → Type 0
IsFirstFault first = IsFault (judged_first first)

placed_fault : (place : Place) (judged : Option Judgement) → IsFault judged
    → IsFirstFault (placed place judged)
placed_fault place None free = free
placed_fault place (Some judged) free = free

later_fault : (first later : Option (Judgement × Place)) → IsFirstFault first → IsFirstFault later
    → IsFirstFault (or_later first later)
later_fault None later free none = none
later_fault (Some first) later free none = free

line_fault : (rules : Rules) (before : Lines) (here : Words) (items : List Item) (lack : Place)
    → HasNoLimits rules → IsFirstFault (first_in_line rules before here items lack)
line_fault rules before here [] lack free =
    placed_fault lack (rules.lacks before here) (free.lacks before here)
line_fault rules before here (word bytes line column ∷ items) lack free =
    later_fault (placed (line, column) (rules.judge before here bytes))
    (first_in_line rules before (here ++ bytes ∷ []) items lack)
    (placed_fault (line, column) (rules.judge before here bytes) (free.judge before here bytes))
    (line_fault rules before (here ++ bytes ∷ []) items lack free)
line_fault rules before here (bad line column ∷ items) lack free = λ which found e. absurd (cc e)

section_fault : (rules : Rules) (before : Lines) (lines : List Line) (last : Place)
    → HasNoLimits rules → IsFirstFault (first_in_section rules before lines last)
section_fault rules before [] last free = λ which found e. absurd (cc e)
section_fault rules before (line ∷ lines) last free =
    later_fault (first_in_line rules before [] line.items line.lack) _
    (line_fault rules before [] line.items line.lack free)
    (behind (is_last line)
    (section_fault rules (before ++ words_of line.items ∷ []) lines last free))
  where
    behind : (t : Bool)
        → IsFirstFault (first_in_section rules (before ++ words_of line.items ∷ []) lines last)
        → IsFirstFault
        (if t then None else first_in_section rules (before ++ words_of line.items ∷ []) lines last)
    behind true rest = λ which found e. absurd (cc e)
    behind false rest = rest

answer_limit : (first : Option (Judgement × Place)) (which found : ℕ)
    → answered first ≡ Some (end.Limit which found) → IsFirstFault first → ⊥
answer_limit None which found e free = absurd (cc e)
answer_limit (Some (fault broken, place)) which found e free = absurd (cc e)
answer_limit (Some (limit w f, place)) which found e free = free w f refl

-- the rules of rows
broken_fault : (rules : List (Bool × Fault)) → IsFault (broken rules)
broken_fault [] = λ which found e. absurd (cc e)
broken_fault (rule ∷ rules) = by_test rule.0 (broken_fault rules)
  where
    by_test : (t : Bool) → IsFault (broken rules)
        → IsFault (if t then Some (fault rule.1) else broken rules)
    by_test true rest = λ which found e. absurd (cc e)
    by_test false rest = rest

next_fault : (a b : Option Judgement) → IsFault a → IsFault b → IsFault (or_next a b)
next_fault None b free none = none
next_fault (Some judged) b free none = free

none_fault : IsFault None
none_fault which found e = absurd (cc e)

known_fault : (names : List Name) (w : List ℕ) → IsFault (known_name names w)
known_fault names w =
    broken_fault ((not (is_name w), NotName) ∷ (not (is_held names w), NotDefined) ∷ [])

either_fault : (t : Bool) (a b : Option Judgement) → IsFault a → IsFault b
    → IsFault (if t then a else b)
either_fault true a b free none = free
either_fault false a b free none = none

twice_fault : (t : Bool) → IsFault (broken ((t, RowTwice) ∷ []))
twice_fault t = broken_fault ((t, RowTwice) ∷ [])

module _ (kind : RowKind) (names : List Name)
    (head_free : (rows : List Row) (h : Option Head) → IsFault (kind.bars.head rows h))
    (named_free : (rows : List Row) (h : Option Head) (number q : ℕ)
    → IsFault (kind.bars.named rows h number q))
    (listed_free : (rows : List Row) (q : ℕ) → IsFault (kind.bars.listed rows q)) where
  judge_fault : (rows : List Row) (row : Row) (list : Words) (last : Option Head) (r : Role)
      (w : List ℕ) → IsFault (judge_by kind names rows row list last r w)
  judge_fault rows row list last role.Record w =
      let other = (not (kind.follows last (head_of w)), NotFixed) ∷ [] in
      next_fault (broken other) (kind.bars.head rows (head_of w)) (broken_fault other)
      (head_free rows (head_of w))
  judge_fault rows row list last role.Number w =
      broken_fault ((not (spelled.is_number w), NotNumber) ∷ [])
  judge_fault rows row list last role.Name w =
      next_fault (known_name names w) _ (known_fault names w)
      (named_free rows row.head row.number (number_in names w))
  judge_fault rows row list last role.Colon w =
      broken_fault ((not (is_word (codes ":") w), NotFixed) ∷ [])
  judge_fault rows row list last role.Member w =
      let twice = (is_held (named list) w, ListedTwice) ∷ [] in
      let again = (has_one list, ListedTwice) ∷ [] in
      let listed = listed_name names (named list) w in
      let barred = kind.bars.listed rows (number_in names w) in
      either_fault (kind.second && is_one w) (broken again) (or_next listed barred)
      (broken_fault again)
      (next_fault listed barred
      (next_fault (known_name names w) (broken twice) (known_fault names w)
      (broken_fault twice))
      (listed_free rows (number_in names w)))
  judge_fault rows row list last role.Surplus w = broken_fault ((true, Surplus) ∷ [])

  lacks_fault : (r : Role) → IsFault (lacks_by r)
  lacks_fault role.Record = λ which found e. absurd (cc e)
  lacks_fault role.Number = λ which found e. absurd (cc e)
  lacks_fault role.Name = λ which found e. absurd (cc e)
  lacks_fault role.Colon = λ which found e. absurd (cc e)
  lacks_fault role.Member = none_fault
  lacks_fault role.Surplus = none_fault

  rows_no_limit : (lines : List Line) (last : Place) (which found : ℕ)
      → IsEnd (end.Limit which found) (first_in_section (row_rules kind names) [] lines last) → ⊥
  rows_no_limit lines last which found e =
      answer_limit (first_in_section (row_rules kind names) [] lines last) which found e
      (section_fault (row_rules kind names) [] lines last (record {
        judge = λ before here w. judge_fault (rows_in kind.shape names before)
            (row_in kind.shape names here) (members_in kind.shape here) _ _ w;
        lacks = λ before here. lacks_fault _;
      }))

pub cert_no_limit : (kind : Kind) (names : List Name) (lines : List Line) (last : Place)
    (which found : ℕ) → IsCertKind kind
    → IsEnd (end.Limit which found) (first_in_section (cert_rules kind names) [] lines last) → ⊥
cert_no_limit Flow names lines last which found k =
    rows_no_limit flow_kind names (λ rows h. none_fault) (λ rows h number q.
    twice_fault (has_row (λ r. r.vertex) (flow_in rows).rows q))
    (λ rows q. none_fault) lines last which found
cert_no_limit NoFlow names lines last which found k =
    rows_no_limit refuter_kind names (λ rows h. none_fault) (λ rows h number q.
    twice_fault (refuted_in (refuter_in rows) q))
    (λ rows q. none_fault) lines last which found
cert_no_limit NoCausal names lines last which found k =
    rows_no_limit stuck_kind names (λ rows h. none_fault) (λ rows h number q. twice_fault false)
    (λ rows q. none_fault) lines last which found
cert_no_limit Least names lines last which found k =
    rows_no_limit least_kind names (λ rows h. none_fault) (λ rows h number q.
    twice_fault (has_bound_row (least_in rows) h number q))
    (λ rows q. none_fault) lines last which found
cert_no_limit _ names lines last which found k = absurd k
