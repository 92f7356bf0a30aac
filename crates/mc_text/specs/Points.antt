-- What stands before a word.
use Rattle.std.specs.Prelude.{ℕ, ◌+◌, List, ◌==◌, nat_lt, codes, fold, if◌then◌else◌, Option, None}
use Rattle.std.specs.Prelude.{Some}
use Rattle.std.specs.Option.{option_or}
use Rattle.mc_text.specs.declared.head.Head.{Head}
use Rattle.mc_text.specs.declared.point.Mark.{Mark}
use Rattle.mc_text.specs.declared.point.Mark.TheVariants.{S, T, Colon}
use Rattle.mc_text.specs.declared.point.Point.{Point}
use Rattle.mc_text.specs.Heads.{is_word, head_of, head_in}

-- the mark that a word spells
abbrev pub mark_of : List ℕ → Option Mark
mark_of word =
    if is_word (codes "s:") word then Some S
    else (if is_word (codes "t:") word then Some T
    else (if is_word (codes ":") word then Some Colon else None))

-- at the start of a line, behind a line with this record word
abbrev pub first_point : Option Head → Point
first_point last = record { last = last; head = None; count = 0; mark = None }

-- behind a further word
abbrev pub next_point : Point → List ℕ → Point
next_point p word =
    if p.count == 0
    then record { last = p.last; head = head_of word; count = 1; mark = None }
    else record {
      last = p.last;
      head = p.head;
      count = if nat_lt p.count 4 then p.count + 1 else p.count;
      mark = option_or (mark_of word) p.mark;
    }

-- the record word of the last line
abbrev pub last_head : List (List (List ℕ)) → Option Head
last_head lines = fold (λ (last : Option Head) line. head_in line) None lines

-- behind the lines before and the words before on the line
abbrev pub point_of : List (List (List ℕ)) → List (List ℕ) → Point
point_of lines here = fold next_point (first_point (last_head lines)) here
