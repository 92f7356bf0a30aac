-- The rules of a section of rows.
use Rattle.std.specs.Prelude.{ℕ, List, [], ◌∷◌, Bool, true, not, ◌&&◌, codes, if◌then◌else◌, Option}
use Rattle.std.specs.Prelude.{None}
use Rattle.mc_model.specs.Names.{Name}
use Rattle.mc_text.specs.declared.head.Head.{Head}
use Rattle.mc_text.specs.declared.fault.Fault.TheVariants.{NotFixed, LineEnds, Surplus, ListedTwice}
use Rattle.mc_text.specs.Heads.{head_of}
use Rattle.mc_text.specs.Points.{point_of}
use Rattle.mc_text.specs.Judged.{Judgement, Words, Rules}
use Rattle.mc_text.specs.Rules.{broken, or_next, known_name, listed_name, number_in}
use Rattle.mc_text.specs.Rules.{fixed_word, number_word}
use Rattle.mc_rows.specs.declared.row.Role.{Role}
use Rattle.mc_rows.specs.declared.row.Role.TheVariants as role
use Rattle.mc_rows.specs.declared.row.Row.{Row}
use Rattle.mc_rows.specs.Rows.{Shapes, role_at, members_in, is_one, has_one, named, row_in, rows_in}

-- what a kind adds: rules of a record word, by the rows before; of the name of a row, by its number
-- as a name, behind a record word and a number; and of a member of a set, by its number as a name
pub record Bars : Type 0 where
  pub head : List Row → Option Head → Option Judgement
  pub named : List Row → Option Head → ℕ → ℕ → Option Judgement
  pub listed : List Row → ℕ → Option Judgement

-- a kind: which record words may begin the section or follow one, the shapes of their rows, and its
-- own rules; and whether `!` may stand in a set
pub record Kind : Type 0 where
  pub follows : Option Head → Option Head → Bool
  pub shape : Shapes
  pub bars : Bars
  pub second : Bool

abbrev pub head_word : Kind → List Row → Option Head → List ℕ → Option Judgement
head_word kind rows last word =
    or_next (broken ((not (kind.follows last (head_of word)), NotFixed) ∷ []))
    (kind.bars.head rows (head_of word))

abbrev pub name_word : Kind → List Name → List Row → Row → List ℕ → Option Judgement
name_word kind names rows row word =
    or_next (known_name names word)
    (kind.bars.named rows row.head row.number (number_in names word))

-- a member behind others of the list
abbrev pub member_word : Kind → List Name → List Row → Words → List ℕ → Option Judgement
member_word kind names rows list word =
    if kind.second && is_one word then broken ((has_one list, ListedTwice) ∷ [])
    else or_next (listed_name names (named list) word)
    (kind.bars.listed rows (number_in names word))

-- a word by its role: beside the names, the rows before, what stands before in the row and in its
-- set, and the record word of the line before
abbrev pub judge_by : Kind → List Name → List Row → Row → Words → Option Head → Role → List ℕ
    → Option Judgement
judge_by kind names rows row list last role.Record word = head_word kind rows last word
judge_by kind names rows row list last role.Number word = number_word word
judge_by kind names rows row list last role.Name word = name_word kind names rows row word
judge_by kind names rows row list last role.Colon word = fixed_word (codes ":") word
judge_by kind names rows row list last role.Member word =
    member_word kind names rows list word
judge_by kind names rows row list last role.Surplus word = broken ((true, Surplus) ∷ [])

-- the end of a line, by the role that a further word would have; no line is empty
abbrev pub lacks_by : Role → Option Judgement
lacks_by role.Record = broken ((true, LineEnds) ∷ [])
lacks_by role.Number = broken ((true, LineEnds) ∷ [])
lacks_by role.Name = broken ((true, LineEnds) ∷ [])
lacks_by role.Colon = broken ((true, LineEnds) ∷ [])
lacks_by role.Member = None
lacks_by role.Surplus = None

-- the rules behind a section that has defined these names
abbrev pub row_rules : Kind → List Name → Rules
row_rules kind names = record {
  judge = λ before here word.
      let p = point_of before here in
      judge_by kind names (rows_in kind.shape names before) (row_in kind.shape names here)
      (members_in kind.shape here) p.last (role_at kind.shape p) word;
  lacks = λ before here. lacks_by (role_at kind.shape (point_of before here));
}
