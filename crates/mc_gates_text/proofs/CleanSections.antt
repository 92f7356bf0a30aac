-- What holds before the first line of a section, and goes on with each word and each end of a line
-- that nothing is against, holds behind a section without a fault.
use Rattle.std.proofs.Common.{◌≡◌, ℕ, List, [], ◌∷◌, ◌++◌, Bool, true, false, Option, Some, None}
use Rattle.std.proofs.Common.{refl, append_assoc, subst, if◌then◌else◌}
use Rattle.std.proofs.lemmas.List.{append-nil}
use Rattle.mc_lex.specs.Lines.{Item, word, bad, Line}
use Rattle.mc_text.specs.Judged.{Judgement, Words, Lines, Place, Rules, placed, or_later}
use Rattle.mc_text.specs.Judged.{words_of, first_in_line, first_in_section, is_last, section_lines}

both_none : (a b : Option (Judgement × Place)) → or_later a b ≡ None → (a ≡ None) × (b ≡ None)
both_none None b e = (refl, e)
both_none (Some first) b e = absurd (cc e)

placed_none : (place : Place) (judged : Option Judgement) → placed place judged ≡ None
    → judged ≡ None
placed_none place None e = refl
placed_none place (Some judged) e = absurd (cc e)

-- it goes on
pub record GoesOn (rules : Rules) (P : Lines → Words → Type 0) : Type 0 where
  pub with_word : (before : Lines) (here : Words) (bytes : List ℕ) → P before here
      → rules.judge before here bytes ≡ None → P before (here ++ bytes ∷ [])
  pub with_line : (before : Lines) (here : Words) → P before here
      → rules.lacks before here ≡ None → P (before ++ here ∷ []) []

behind_line : (rules : Rules) (P : Lines → Words → Type 0) → GoesOn rules P → (before : Lines)
    (here : Words) (items : List Item) (lack : Place) → P before here
    → first_in_line rules before here items lack ≡ None
    → P (before ++ (here ++ words_of items) ∷ []) []
behind_line rules P on before here [] lack p clean =
    rw (append-nil here) (on.with_line before here p (placed_none lack _ clean))
behind_line rules P on before here (word bytes line column ∷ items) lack p clean =
    let both = both_none _ _ clean in
    let p' = on.with_word before here bytes p (placed_none (line, column) _ both.0) in
    let rest = behind_line rules P on before (here ++ bytes ∷ []) items lack p' both.1 in
    subst (λ (ws : Words). P (before ++ ws ∷ []) [])
    (append_assoc here (bytes ∷ []) (words_of items)) rest
behind_line rules P on before here (bad line column ∷ items) lack p clean = absurd (cc clean)

behind_lines : (rules : Rules) (P : Lines → Words → Type 0) → GoesOn rules P → (before : Lines)
    (lines : List Line) (end : Place) → P before [] → first_in_section rules before lines end ≡ None
    → P (before ++ section_lines lines) []
behind_lines rules P on before [] end p clean = absurd (cc clean)
behind_lines rules P on before (line ∷ lines) end p clean =
    let both = both_none _ _ clean in
    let p' = behind_line rules P on before [] line.items line.lack p both.0 in
    let rest = behind_lines rules P on (before ++ words_of line.items ∷ []) lines end p' in
    by_last (is_last line) refl p' rest both.1
  where
    by_last : (t : Bool) → is_last line ≡ t → P (before ++ words_of line.items ∷ []) []
        → (first_in_section rules (before ++ words_of line.items ∷ []) lines end ≡ None
        → P ((before ++ words_of line.items ∷ []) ++ section_lines lines) [])
        → (if is_last line then None
        else first_in_section rules (before ++ words_of line.items ∷ []) lines end) ≡ None
        → P (before ++ section_lines (line ∷ lines)) []
    by_last true e p' rest clean' = rw e p'
    by_last false e p' rest clean' =
        let clean'' = rw e at clean' in
        rw e
        (subst (λ (ls : Lines). P ls [])
        (append_assoc before (words_of line.items ∷ []) (section_lines lines)) (rest clean''))

pub behind_clean : (rules : Rules) (P : Lines → Words → Type 0) → GoesOn rules P
    → (lines : List Line) (end : Place) → P [] [] → first_in_section rules [] lines end ≡ None
    → P (section_lines lines) []
behind_clean rules P on lines end p clean = behind_lines rules P on [] lines end p clean
