-- Sections without a fault.
use Rattle.std.proofs.Common.{◌≡◌, List, [], ◌∷◌, ◌++◌, Bool, true, false, Option, Some, None, fold}
use Rattle.std.proofs.Common.{refl}
use Rattle.mc_lex.specs.Lines.{Line}
use Rattle.mc_text.specs.declared.head.Head.{Head}
use Rattle.mc_text.specs.declared.head.Head.TheVariants.{End}
use Rattle.mc_text.specs.Heads.{head_in, is_end}
use Rattle.mc_text.specs.Points.{last_head}
use Rattle.mc_text.specs.Judged.{Judgement, Words, Lines, Place, Rules, or_later, words_of}
use Rattle.mc_text.specs.Judged.{first_in_line, first_in_section, is_last, section_lines}

end_head : (h : Option Head) → is_end h ≡ true → h ≡ Some End
end_head None e = absurd (cc e)
end_head (Some End) e = refl
end_head (Some _) e = absurd (cc e)

later_none : (a b : Option (Judgement × Place)) → or_later a b ≡ None → b ≡ None
later_none None b e = e
later_none (Some first) b e = absurd (cc e)

last_from : Option Head → Lines → Option Head
last_from start lines = fold (λ (last : Option Head) (line : Words). head_in line) start lines

ends_step : (rules : Rules) (before : Lines) (line : Line) (lines : List Line) (end : Place)
    (start : Option Head) (t : Bool) → is_last line ≡ t
    → first_in_section rules before (line ∷ lines) end ≡ None
    → (first_in_section rules (before ++ words_of line.items ∷ []) lines end ≡ None
    → last_from (head_in (words_of line.items)) (section_lines lines) ≡ Some End)
    → last_from start (section_lines (line ∷ lines)) ≡ Some End
unfolding last_from
ends_step rules before line lines end start true e clean rest =
    rw e (end_head (head_in (words_of line.items)) e)
ends_step rules before line lines end start false e clean rest =
    let clean' = rw e at clean in
    rw e (rest (later_none (first_in_line rules before [] line.items line.lack) _ clean'))

ends_from : (rules : Rules) (before : Lines) (lines : List Line) (end : Place) (start : Option Head)
    → first_in_section rules before lines end ≡ None
    → last_from start (section_lines lines) ≡ Some End
ends_from rules before [] end start clean = absurd (cc clean)
ends_from rules before (line ∷ lines) end start clean =
    ends_step rules before line lines end start (is_last line) refl clean
    (ends_from rules (before ++ words_of line.items ∷ []) lines end (head_in (words_of line.items)))

-- a section without a fault ends with `end`
pub clean_ends : (rules : Rules) (lines : List Line) (end : Place)
    → first_in_section rules [] lines end ≡ None → last_head (section_lines lines) ≡ Some End
unfolding last_from
clean_ends rules lines end clean = ends_from rules [] lines end None clean
