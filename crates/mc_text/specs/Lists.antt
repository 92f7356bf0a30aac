-- What stands in the lines with some record words, and in the lists of a line.
use Rattle.std.specs.Prelude.{ℕ, ◌+◌, List, [], ◌∷◌, ◌++◌, Bool, ◌==◌, flat_map}
use Rattle.std.specs.Prelude.{filter_map, sum_by, slice_get, if◌then◌else◌, Option, None, Some}
use Rattle.mc_text.specs.declared.head.Head.{Head}
use Rattle.mc_text.specs.declared.point.Point.{Point}
use Rattle.mc_text.specs.Heads.{head_of}
use Rattle.mc_text.specs.Judged.{Words, Lines}

-- the words behind the record word of a line, where that passes the test
abbrev pub names_in : (Option Head → Bool) → Words → List (List ℕ)
names_in test [] = []
names_in test (head ∷ words) = if test (head_of head) then words else []

-- those of the lines before and of the words of a line
abbrev pub names_at : (Option Head → Bool) → Lines → Words → List (List ℕ)
names_at test before here = flat_map (names_in test) before ++ names_in test here

-- what one more word adds to them
abbrev pub added : (Option Head → Bool) → Point → List ℕ → List (List ℕ)
added test p word = if p.count == 0 then [] else (if test p.head then word ∷ [] else [])

-- the n-th word behind the record word of a line, counted from 0, where that passes the test
abbrev pub operand_at : ℕ → (Option Head → Bool) → Words → Option (List ℕ)
operand_at n test [] = None
operand_at n test (head ∷ words) = if test (head_of head) then slice_get words n else None

-- that word with one more word on the line
abbrev pub next_operand : ℕ → (Option Head → Bool) → Point → Option (List ℕ) → List ℕ
    → Option (List ℕ)
next_operand n test p operand word =
    if p.count == n + 1 then (if test p.head then Some word else operand) else operand

-- the n-th words of lines
abbrev pub operands_at : ℕ → (Option Head → Bool) → Lines → List (List ℕ)
operands_at n test before = filter_map (operand_at n test) before

-- how many lines begin with a record word that passes the test, that of the words `here` among them
abbrev pub begun : (Option Head → Bool) → Words → ℕ
begun test [] = 0
begun test (head ∷ words) = if test (head_of head) then 1 else 0

abbrev pub count_of : (Option Head → Bool) → Lines → Words → ℕ
count_of test before here = sum_by (begun test) before + begun test here
