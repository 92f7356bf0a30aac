-- What a word, the end of a line and a line do to what is kept of a section.
use Rattle.std.specs.Prelude.{◌≡◌, ℕ, List, [], ◌∷◌, ◌++◌, Option, None}
use Rattle.mc_lex.specs.declared.end.TextEnd.{TextEnd}
use Rattle.mc_lex.specs.Left.{Left}
use Rattle.mc_text.specs.declared.head.Head.{Head}
use Rattle.mc_text.specs.declared.point.Point.{Point}
use Rattle.mc_text.specs.declared.fault.Stop.{Stop}
use Rattle.mc_text.specs.Heads.{head_in}
use Rattle.mc_text.specs.Points.{point_of, last_head}
use Rattle.mc_text.specs.Judged.{Words, Lines, Rules, words_of, first_in_line}
use Rattle.mc_text.specs.Stops.{IsStop, IsEnd}

-- a word with nothing against it is kept
pub record TakesWord {K : Type 0} (rules : K → Rules) (means : K → Lines → Words → Type 0)
    (kept kept' : K) (point : Point) (word : List ℕ) : Type 0 where
  pub same_rules : rules kept' ≡ rules kept
  pub taken : (before : Lines) (here : Words) → means kept before here
      → point ≡ point_of before here
      → ((rules kept).judge before here word ≡ None) × means kept' before (here ++ word ∷ [])

-- the end of a line with nothing against it is kept
pub record TakesEnd {K : Type 0} (rules : K → Rules) (means : K → Lines → Words → Type 0)
    (kept kept' : K) (point : Point) : Type 0 where
  pub same_rules : rules kept' ≡ rules kept
  pub taken : (before : Lines) (here : Words) → means kept before here
      → point ≡ point_of before here
      → ((rules kept).lacks before here ≡ None) × means kept' (before ++ here ∷ []) []

-- a stop is what is judged
abbrev pub StopsAtWord : {K : Type 0} → (K → Rules) → (K → Lines → Words → Type 0) → K → Point
    → List ℕ → Stop → Type 0
StopsAtWord rules means kept point word stop =
    (before : Lines) (here : Words) → means kept before here → point ≡ point_of before here
    → IsStop stop ((rules kept).judge before here word)

abbrev pub StopsAtEnd : {K : Type 0} → (K → Rules) → (K → Lines → Words → Type 0) → K → Point
    → Stop → Type 0
StopsAtEnd rules means kept point stop =
    (before : Lines) (here : Words) → means kept before here → point ≡ point_of before here
    → IsStop stop ((rules kept).lacks before here)

-- a line with nothing against it is kept, and `head` is its record word
pub record TakesLine {K : Type 0} (rules : K → Rules) (means : K → Lines → Words → Type 0)
    (kept kept' : K) (last : Option Head) (left : Left) (head : Option Head) : Type 0 where
  pub same_rules : rules kept' ≡ rules kept
  pub taken : (before : Lines) → means kept before [] → last ≡ last_head before
      → (first_in_line (rules kept) before [] left.here left.lack ≡ None)
      × means kept' (before ++ words_of left.here ∷ []) []
      × (head ≡ head_in (words_of left.here))

-- an answer is that to the first fault or limit of a line
abbrev pub StopsInLine : {K : Type 0} → (K → Rules) → (K → Lines → Words → Type 0) → K → Option Head
    → Left → TextEnd → Type 0
StopsInLine rules means kept last left end =
    (before : Lines) → means kept before [] → last ≡ last_head before
    → IsEnd end (first_in_line (rules kept) before [] left.here left.lack)
