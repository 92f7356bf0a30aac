-- Where the tokens of a text stand: laws of its lines.
use Rattle.std.specs.Prelude.{◌≡◌, ℕ, ◌+◌, ◌-◌, ◌<◌, ◌≤◌, List, [], ◌∷◌, ◌++◌, Bool, true}
use Rattle.std.specs.Prelude.{false}
use Rattle.std.specs.Prelude.{length, take, fold, sum_by, All}
use Rattle.std.specs.List.{list_all}
use Rattle.mc_lex.specs.Bytes.{is_blank, is_word_byte}
use Rattle.mc_lex.specs.Lines.{Item, word, bad, Line, parts_of, starts_word, past_items, lines_of}

-- how many bytes stand before a line and a column: the earlier lines, each with its line feed, and
-- the earlier bytes of the line
abbrev pub offset : List ℕ → ℕ → ℕ → ℕ
offset text line column =
    sum_by (λ part. length part + 1) (take (line - 1) (parts_of text)) + (column - 1)

-- `bytes` stands in the text behind its first `at` bytes
pub record IsSlice (text : List ℕ) (at : ℕ) (bytes : List ℕ) : Type 0 where
  pub before : List ℕ
  pub behind : List ℕ
  pub split : text ≡ before ++ (bytes ++ behind)
  pub starts : length before ≡ at

-- whether the bytes end with a word byte
abbrev pub ends_word : List ℕ → Bool
ends_word bytes = fold (λ last b. is_word_byte b) false bytes

-- a longest run of word bytes that stands behind the first `at` bytes
pub record IsRun (text : List ℕ) (at : ℕ) (bytes : List ℕ) : Type 0 where
  pub slice : IsSlice text at bytes
  pub some : 0 < length bytes
  pub word_bytes : list_all is_word_byte bytes ≡ true
  pub from_start : ends_word slice.before ≡ false
  pub to_end : starts_word slice.behind ≡ false

-- a byte that is neither a blank nor a word byte stands behind the first `at` bytes
pub record IsStray (text : List ℕ) (at : ℕ) : Type 0 where
  pub byte : ℕ
  pub slice : IsSlice text at (byte ∷ [])
  pub no_blank : is_blank byte ≡ false
  pub no_word : is_word_byte byte ≡ false

-- a token of a text stands at its place, where `at` says how many bytes stand before a place
abbrev pub IsAt : List ℕ → (ℕ → ℕ → ℕ) → Item → Type 0
IsAt text at (word bytes line column) = IsRun text (at line column) bytes
IsAt text at (bad line column) = IsStray text (at line column)

-- each word is the slice of the text at its place
abbrev pub WordsAreSlices : List ℕ → Type 0
WordsAreSlices text = All (λ line. All (IsAt text (offset text)) line.items) (lines_of text)

-- the tokens stand in this line, from this column on, and none begins before the one in front of it
-- ends
abbrev pub InOrder : ℕ → ℕ → List Item → Type 0
InOrder line column [] = Unit {0}
InOrder line column (word bytes l c ∷ items) =
    (l ≡ line) × (column ≤ c) × InOrder line (c + length bytes) items
InOrder line column (bad l c ∷ items) = (l ≡ line) × (column ≤ c) × InOrder line (c + 1) items

-- the numbers of the lines rise from this one on, and each lacks a token just past its last one
abbrev pub RisingFrom : ℕ → List Line → Type 0
RisingFrom number [] = Unit {0}
RisingFrom number (line ∷ lines) =
    (n : ℕ) × ((number ≤ n) × InOrder n 1 line.items × (line.lack ≡ (n, past_items 1 line.items))
    × RisingFrom (n + 1) lines)

abbrev pub LinesInOrder : List ℕ → Type 0
LinesInOrder text = RisingFrom 1 (lines_of text)
