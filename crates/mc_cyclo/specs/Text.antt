-- The text of an amplitude.
use Rattle.std.specs.Prelude.{ℕ, ℤ, List, [], ◌∷◌, ◌++◌, map}
use Rattle.std.specs.Fmt.{decimal, signed_decimal}
use Rattle.mc_write.specs.Text.{Line, words_behind}

-- its words: the coordinates, a slash, and the power of the root of two that they are over
abbrev pub amplitude_words : List ℤ → ℕ → Line
amplitude_words num halves = map signed_decimal num ++ (47 ∷ []) ∷ decimal halves ∷ []

-- words with a blank between
abbrev pub spaced : Line → List ℕ
spaced [] = []
spaced (word ∷ words) = word ++ words_behind words

abbrev pub amplitude_text : List ℤ → ℕ → List ℕ
amplitude_text num halves = spaced (amplitude_words num halves)
