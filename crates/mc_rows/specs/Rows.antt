-- Rows: what the words of a line are by their places, and the row that a line spells.
use Rattle.std.specs.Prelude.{ℕ, ◌+◌, List, [], ◌∷◌, ◌++◌, Bool, true, false, not, ◌==◌, fold}
use Rattle.std.specs.Prelude.{map, filter, length, codes, if◌then◌else◌, Option, None, Some}
use Rattle.std.specs.List.{list_any, filter_map}
use Rattle.mc_model.specs.Names.{Name}
use Rattle.mc_model.specs.Numbers.{numbers_where, is_member}
use Rattle.mc_angle.specs.Number.{number_of}
use Rattle.mc_text.specs.declared.head.Head.{Head}
use Rattle.mc_text.specs.declared.point.Point.{Point}
use Rattle.mc_text.specs.Heads.{is_word, head_of, head_in, is_end}
use Rattle.mc_text.specs.Judged.{Words, Lines}
use Rattle.mc_text.specs.Rules.{number_in}
use Rattle.mc_rows.specs.declared.row.Shape.{Shape}
use Rattle.mc_rows.specs.declared.row.Shape.TheVariants.{Bare, Numbered, Ranked, Listed}
use Rattle.mc_rows.specs.declared.row.Shape.TheVariants.{Set, NamedSet, RankedSet}
use Rattle.mc_rows.specs.declared.row.Role.{Role}
use Rattle.mc_rows.specs.declared.row.Role.TheVariants.{Record, Number, Name as name}
use Rattle.mc_rows.specs.declared.row.Role.TheVariants.{Colon, Member, Surplus}
use Rattle.mc_rows.specs.declared.row.Row.{Row}

-- the shape of the row of each record word
abbrev pub Shapes : Type 0
Shapes = Option Head → Shape

-- what the n-th word behind the record word is
abbrev pub role_behind : Shape → ℕ → Role
role_behind Bare n = Surplus
role_behind Numbered n = if n == 1 then Number else Surplus
role_behind Ranked n = if n == 1 then Number else (if n == 2 then name else Surplus)
role_behind Listed n = if n == 1 then name else Member
role_behind Set n = Member
role_behind NamedSet n = if n == 1 then name else (if n == 2 then Colon else Member)
role_behind RankedSet n =
    if n == 1 then Number
    else (if n == 2 then name else (if n == 3 then Colon else Member))

abbrev pub role_in : Shape → ℕ → Role
role_in shape n = if n == 0 then Record else role_behind shape n

-- what a further word of a line is
abbrev pub role_at : Shapes → Point → Role
role_at shape p = role_in (shape p.head) p.count

abbrev pub is_number : Role → Bool
is_number Number = true
is_number _ = false

abbrev pub is_name : Role → Bool
is_name name = true
is_name _ = false

abbrev pub is_listed : Role → Bool
is_listed Member = true
is_listed _ = false

-- the words in a role, of those of a row from the n-th behind the record word on
abbrev pub words_from : (Role → Bool) → Shape → ℕ → Words → Words
words_from test shape n [] = []
words_from test shape n (w ∷ words) =
    (if test (role_behind shape n) then w ∷ [] else []) ++ words_from test shape (n + 1) words

abbrev pub words_in : (Role → Bool) → Shapes → Words → Words
words_in test shape [] = []
words_in test shape (h ∷ words) = words_from test (shape (head_of h)) 1 words

abbrev pub members_in : Shapes → Words → Words
members_in shape words = words_in is_listed shape words

-- the word for the constant of a signal, and the names of a list that may hold it
abbrev pub is_one : List ℕ → Bool
is_one word = is_word (codes "!") word

abbrev pub has_one : Words → Bool
has_one list = list_any is_one list

abbrev pub named : Words → Words
named list = filter (λ word. not (is_one word)) list

-- the number that the last of the words spells, and the number of the last of them as a name
abbrev pub number_by : Words → ℕ
number_by words = fold (λ (n : ℕ) word. number_of word) 0 words

abbrev pub name_by : List Name → Words → ℕ
name_by names words = fold (λ (q : ℕ) word. number_in names word) 0 words

-- the numbers of the names of a list, in rising order
abbrev pub set_by : List Name → Words → List ℕ
set_by names list =
    numbers_where (is_member (map (number_in names) (named list))) (length names)

-- the row that a line spells
abbrev pub row_in : Shapes → List Name → Words → Row
row_in shape names words = record {
  head = head_in words;
  number = number_by (words_in is_number shape words);
  name = name_by names (words_in is_name shape words);
  set = set_by names (members_in shape words);
  constant = has_one (members_in shape words);
}

-- the line `end` is no row
abbrev pub spelled_row : Shapes → List Name → Words → Option Row
spelled_row shape names words =
    if is_end (head_in words) then None else Some (row_in shape names words)

abbrev pub rows_in : Shapes → List Name → Lines → List Row
rows_in shape names lines = filter_map (spelled_row shape names) lines

-- the row of no words
abbrev pub row_of_none : Row
row_of_none = record { head = None; number = 0; name = 0; set = []; constant = false }
