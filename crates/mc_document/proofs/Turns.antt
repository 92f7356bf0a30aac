-- The step that the tokens of the first line say.
use Rattle.std.proofs.Common.{◌≡◌, ℕ, List, [], ◌∷◌, Bool, true, false, ◌&&◌, codes, Option, Some}
use Rattle.std.proofs.Common.{refl, if◌then◌else◌, ◌∙◌}
use Rattle.mc_lex.specs.Given.{first_of}
use Rattle.mc_lex.specs.Left.{Left, begin, behind, on_first, passed}
use Rattle.mc_lex.specs.Lines.{Item, word, bad, Line, lines_of, end_of}
use Rattle.mc_text.specs.Headers.{half_in}
use Rattle.mc_text.specs.Judged.{words_of}
use Rattle.mc_document.specs.Turns.{are_sixteenths, first_words, half_of, is_spelled}

abbrev steps : Bool → ℕ
steps t = if t then 8 else 4

neither : (t : Bool) → steps (t && false) ≡ 4
neither true = refl
neither false = refl

one_by_one : (t s : Bool) →
    (if t then steps s else 4) ≡ steps (t && s)
one_by_one true s = refl
one_by_one false s = refl

by_items : (items : List Item) →
    half_in (words_of items)
    ≡ steps (are_sixteenths (first_of (behind (behind items)))
    (first_of (behind (behind (behind items)))))
by_items [] = refl
by_items (a ∷ []) = refl
by_items (a ∷ b ∷ []) = refl
by_items (a ∷ b ∷ turn ∷ []) = rw (neither (is_spelled (codes "turn") (Some turn))) refl
by_items (a ∷ b ∷ word turn l c ∷ word number l' c' ∷ more) = one_by_one _ _
by_items (a ∷ b ∷ word turn l c ∷ bad l' c' ∷ more) = one_by_one _ _
by_items (a ∷ b ∷ bad l c ∷ number ∷ more) = refl

pub said : (lines : List Line) (last : ℕ × ℕ) →
    half_in (first_words lines)
    ≡ steps (are_sixteenths (first_of (behind (behind (on_first lines last).here)))
    (first_of (behind (behind (behind (on_first lines last).here)))))
said [] last = refl
said (line ∷ lines) last = by_items line.items

-- a reader that has begun a text, stands on its first line, and goes over its first tokens
pub record IsTold (text : List ℕ) (begun opened second third fourth : Left)
    (turn number : Option Item) : Type 0 where
  pub begins : begun ≡ begin text
  pub opens : opened ≡ on_first begun.later begun.last
  pub one : second ≡ passed opened
  pub two : third ≡ passed second
  pub three : fourth ≡ passed third
  pub turns : turn ≡ first_of third.here
  pub numbers : number ≡ first_of fourth.here

pub told : (text : List ℕ) (begun opened second third fourth : Left) (turn number : Option Item) →
    IsTold text begun opened second third fourth turn number →
    half_of text ≡ steps (are_sixteenths turn number)
told text begun opened second third fourth turn number h =
    said (lines_of text) (end_of text)
    ∙ rw (h.turns, h.numbers, h.three, h.two, h.one, h.opens, h.begins) refl
