-- How many steps half a turn has, as the first line of a text says.
use Rattle.std.specs.Prelude.{ℕ, List, [], ◌∷◌, Bool, false, ◌&&◌, codes, Option, None, Some}
use Rattle.mc_lex.specs.Lines.{Item, word, bad, Line, lines_of}
use Rattle.mc_text.specs.Heads.{is_word}
use Rattle.mc_text.specs.Headers.{half_in}
use Rattle.mc_text.specs.Judged.{Words, words_of}

-- the words of the first of lines
abbrev pub first_words : List Line → Words
first_words [] = []
first_words (line ∷ lines) = words_of line.items

-- 8 exactly where the first line that has a token has `turn` and `16` for its third and fourth
-- words, else 4
abbrev pub half_of : List ℕ → ℕ
half_of text = half_in (first_words (lines_of text))

-- whether a token, if there is one, is this word
abbrev pub is_spelled : List ℕ → Option Item → Bool
is_spelled spelled None = false
is_spelled spelled (Some (word bytes line column)) = is_word spelled bytes
is_spelled spelled (Some (bad line column)) = false

-- whether two tokens are the words `turn 16`
abbrev pub are_sixteenths : Option Item → Option Item → Bool
are_sixteenths turn number =
    is_spelled (codes "turn") turn && is_spelled (codes "16") number
