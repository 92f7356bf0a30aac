-- The text of lines of words, as it is written: a blank between words, a line feed behind each line.
use Rattle.std.specs.Prelude.{ℕ, List, [], ◌∷◌, ◌++◌}
use Rattle.std.specs.List.{flat_map}

-- a line, by its words
abbrev pub Line : Type 0
Line = List (List ℕ)

-- words behind the first of a line
abbrev pub words_behind : Line → List ℕ
words_behind words = flat_map (λ word. 32 ∷ word) words

abbrev pub line_text : Line → List ℕ
line_text [] = 10 ∷ []
line_text (head ∷ words) = head ++ (words_behind words ++ 10 ∷ [])

abbrev pub text_of : List Line → List ℕ
text_of lines = flat_map line_text lines
