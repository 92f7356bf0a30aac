-- The first fault or limit of a section.
use Rattle.std.specs.Prelude.{ℕ, List, [], ◌∷◌, ◌++◌, map, Bool, if◌then◌else◌, Option, None, Some}
use Rattle.mc_lex.specs.Lines.{Item, word, bad, Line}
use Rattle.mc_text.specs.declared.fault.Fault.{Fault}
use Rattle.mc_text.specs.declared.fault.Fault.TheVariants.{StrayByte, TextEnds}
use Rattle.mc_text.specs.Heads.{head_in, is_end}

-- a broken rule, or a passed limit by its number and what was found
pub data Judgement : Type 0 where
  fault : Fault → Judgement
  limit : ℕ → ℕ → Judgement

-- the words of a line, and lines of words
abbrev pub Words : Type 0
Words = List (List ℕ)

abbrev pub Lines : Type 0
Lines = List (List (List ℕ))

-- a line and a column
abbrev pub Place : Type 0
Place = ℕ × ℕ

-- what is judged in a kind of section, by the lines before and by the words before on the line:
-- with a word, and where a line ends behind its words
pub record Rules : Type 0 where
  pub judge : Lines → Words → List ℕ → Option Judgement
  pub lacks : Lines → Words → Option Judgement

abbrev pub placed : Place → Option Judgement → Option (Judgement × Place)
placed place None = None
placed place (Some judged) = Some (judged, place)

-- the first of two
abbrev pub or_later : Option (Judgement × Place) → Option (Judgement × Place)
    → Option (Judgement × Place)
or_later None later = later
or_later (Some first) later = Some first

-- the first of the rest of a line behind the words `here`: each word is judged where it stands, a
-- byte that is not allowed is a fault, and the end of the line comes last
abbrev pub first_in_line : Rules → Lines → Words → List Item → Place → Option (Judgement × Place)
first_in_line rules before here [] lack = placed lack (rules.lacks before here)
first_in_line rules before here (word bytes line column ∷ items) lack =
    or_later (placed (line, column) (rules.judge before here bytes))
    (first_in_line rules before (here ++ bytes ∷ []) items lack)
first_in_line rules before here (bad line column ∷ items) lack =
    Some (fault StrayByte, (line, column))

abbrev pub word_of : Item → List ℕ
word_of (word bytes line column) = bytes
word_of (bad line column) = []

abbrev pub words_of : List Item → Words
words_of items = map word_of items

-- whether a line ends its section
abbrev pub is_last : Line → Bool
is_last line = is_end (head_in (words_of line.items))

-- the first of the lines through `end`, behind the lines `before` of the section; where the text
-- ends before, that is a fault
abbrev pub first_in_section : Rules → Lines → List Line → Place → Option (Judgement × Place)
first_in_section rules before [] end = Some (fault TextEnds, end)
first_in_section rules before (line ∷ lines) end =
    or_later (first_in_line rules before [] line.items line.lack)
    (if is_last line then None
    else first_in_section rules (before ++ words_of line.items ∷ []) lines end)

-- the words of the lines through `end`, and the lines behind
abbrev pub section_lines : List Line → Lines
section_lines [] = []
section_lines (line ∷ lines) =
    words_of line.items ∷ (if is_last line then [] else section_lines lines)

abbrev pub behind_section : List Line → List Line
behind_section [] = []
behind_section (line ∷ lines) = if is_last line then lines else behind_section lines
