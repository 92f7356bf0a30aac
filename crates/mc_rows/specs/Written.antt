-- The lines of rows, as they are written, and the rows that may be written.
use Rattle.std.specs.Prelude.{◌≡◌, ℕ, ◌<◌, ◌≤◌, List, [], ◌∷◌, ◌++◌, Bool, true, false, All, ⊤}
use Rattle.std.specs.Prelude.{length, map, codes, ◌&&◌, nat_le, if◌then◌else◌, Option, None, Some}
use Rattle.std.specs.List.{list_all}
use Rattle.mc_lex.specs.Bytes.{is_word_byte}
use Rattle.std.specs.Fmt.{decimal}
use Rattle.mc_model.specs.Names.{Name}
use Rattle.mc_model.specs.Numbers.{is_member}
use Rattle.mc_model.specs.Signals.{IsRising}
use Rattle.mc_write.specs.Named.{name_at}
use Rattle.mc_text.specs.declared.head.Head.{Head}
use Rattle.mc_text.specs.declared.head.Head.TheVariants.{End}
use Rattle.mc_text.specs.Heads.{spelling, is_end}
use Rattle.mc_text.specs.Judged.{Words, Lines}
use Rattle.mc_rows.specs.declared.row.Shape.{Shape}
use Rattle.mc_rows.specs.declared.row.Shape.TheVariants.{Bare, Numbered, Ranked, Listed}
use Rattle.mc_rows.specs.declared.row.Shape.TheVariants.{Set, NamedSet, RankedSet}
use Rattle.mc_rows.specs.declared.row.Row.{Row}
use Rattle.mc_rows.specs.declared.print.Parts.{Parts}
use Rattle.mc_rows.specs.Rows.{Shapes}
use Rattle.mc_rows.specs.Judge.{Kind}
use Rattle.mc_rows.specs.Kept.{has_name}

abbrev pub has_set : Shape → Bool
has_set Bare = false
has_set Numbered = false
has_set Ranked = false
has_set Listed = true
has_set Set = true
has_set NamedSet = true
has_set RankedSet = true

-- the members by rising number, and behind them the constant
abbrev pub set_words : List Name → List ℕ → Bool → Words
set_words names set constant =
    map (name_at names) set ++ (if constant then codes "!" ∷ [] else [])

-- the words between the record word and the set
abbrev pub due_words : Shape → List Name → ℕ → ℕ → Words
due_words Bare names n q = []
due_words Numbered names n q = decimal n ∷ []
due_words Ranked names n q = decimal n ∷ name_at names q ∷ []
due_words Listed names n q = name_at names q ∷ []
due_words Set names n q = []
due_words NamedSet names n q = name_at names q ∷ codes ":" ∷ []
due_words RankedSet names n q = decimal n ∷ name_at names q ∷ codes ":" ∷ []

abbrev pub words_of_row : Shape → List Name → Row → Words
words_of_row shape names row =
    due_words shape names row.number row.name
    ++ (if has_set shape then set_words names row.set row.constant else [])

-- the row whose parts these are
abbrev pub row_with : Parts → Row
row_with parts = record {
  head = Some parts.head;
  number = parts.number;
  name = parts.name;
  set = parts.set.now;
  constant = parts.constant;
}

abbrev pub head_words : Option Head → Words
head_words None = []
head_words (Some head) = spelling head ∷ []

abbrev pub row_line : Shapes → List Name → Row → Words
row_line shape names row = head_words row.head ++ words_of_row (shape row.head) names row

-- the lines behind the header
abbrev pub rows_lines : Shapes → List Name → List Row → Lines
rows_lines shape names rows = map (row_line shape names) rows ++ (codes "end" ∷ []) ∷ []

-- a row has nothing that its shape does not have
abbrev pub IsPlain : Shape → Row → Type 0
IsPlain Bare row =
    (row.number ≡ 0) × (row.name ≡ 0) × (row.set ≡ []) × (row.constant ≡ false)
IsPlain Numbered row = (row.name ≡ 0) × (row.set ≡ []) × (row.constant ≡ false)
IsPlain Ranked row = (row.set ≡ []) × (row.constant ≡ false)
IsPlain Listed row = row.number ≡ 0
IsPlain Set row = (row.number ≡ 0) × (row.name ≡ 0)
IsPlain NamedSet row = row.number ≡ 0
IsPlain RankedSet row = ⊤

-- a row names what has a name
pub record IsNamed (n : ℕ) (shape : Shape) (row : Row) : Type 0 where
  pub name : has_name shape ≡ true → row.name < n
  pub members : All (λ q. q < n) row.set

-- nothing is against a row behind these, the last of which has this record word
pub record IsSound (kind : Kind) (names : List Name) (last : Option Head) (done : List Row)
    (row : Row) : Type 0 where
  pub head : Head
  pub head_is : row.head ≡ Some head
  pub goes : is_end row.head ≡ false
  pub follows : kind.follows last row.head ≡ true
  pub opens : kind.bars.head done row.head ≡ None
  pub number : row.number ≤ 9999
  pub is_named : IsNamed (length names) (kind.shape row.head) row
  pub named : has_name (kind.shape row.head) ≡ true
      → kind.bars.named done row.head row.number row.name ≡ None
  pub listed : (q : ℕ) → is_member row.set q ≡ true → kind.bars.listed done q ≡ None
  pub rising : IsRising row.set
  pub constant : row.constant ≡ true → kind.second ≡ true
  pub plain : IsPlain (kind.shape row.head) row

-- nothing is against rows behind these, and behind them the section may end
abbrev pub AreSound : Kind → List Name → Option Head → List Row → List Row → Type 0
AreSound kind names last done [] =
    (kind.follows last (Some End) ≡ true) × (kind.bars.head done (Some End) ≡ None)
AreSound kind names last done (row ∷ rows) =
    IsSound kind names last done row × AreSound kind names row.head (done ++ row ∷ []) rows

-- the words of a header, which can be written
abbrev pub IsWrittenHeader : Words → Type 0
IsWrittenHeader [] = ⊥
IsWrittenHeader (w ∷ ws) = list_all (λ word. nat_le 1 (length word) && list_all is_word_byte word)
    (w ∷ ws) ≡ true

-- the numbers of a row are below a bound, and its set is in order
pub record IsWithin (n : ℕ) (row : Row) : Type 0 where
  pub name : row.name < n
  pub members : All (λ q. q < n) row.set
  pub rising : IsRising row.set
