-- The place at which a document begins.
use Rattle.std.specs.Prelude.{ℕ, List, [], ◌∷◌}
use Rattle.mc_lex.specs.Lines.{Item, word, bad, Line, lines_of, end_of}
use Rattle.mc_text.specs.Judged.{Place}

abbrev pub place_of_item : Item → Place
place_of_item (word bytes line column) = (line, column)
place_of_item (bad line column) = (line, column)

abbrev pub place_in : List Item → Place → Place
place_in [] lack = lack
place_in (item ∷ items) lack = place_of_item item

abbrev pub place_in_lines : List Line → Place → Place
place_in_lines [] end = end
place_in_lines (line ∷ lines) end = place_in line.items line.lack

-- the place of the first word of a text
abbrev pub first_place : List ℕ → Place
first_place text = place_in_lines (lines_of text) (end_of text)
