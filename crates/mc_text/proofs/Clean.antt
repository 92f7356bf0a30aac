-- Lines of words without a fault, and the text that they are written as.
use Rattle.std.proofs.Common.{◌≡◌, ℕ, ◌+◌, List, [], ◌∷◌, ◌++◌, Bool, true, false, ◌&&◌, None}
use Rattle.std.proofs.Common.{length, drop, refl}
use Rattle.std.specs.List.{list_all}
use Rattle.mc_lex.specs.Lines.{Line, lines_of}
use Rattle.mc_write.specs.Text.{text_of}
use Rattle.mc_text.specs.Heads.{head_in, is_end}
use Rattle.mc_text.specs.Judged.{Words, Lines, Place, Rules, words_of, first_in_line}
use Rattle.mc_text.specs.Judged.{first_in_section, section_lines, behind_section}
use Rattle.mc_text.proofs.Written.{is_written_line, items_behind, placed_items, placed_lines}
use Rattle.mc_text.proofs.Written.{lines_of-text}

-- nothing is against the rest of a line, behind the lines and the words before
abbrev pub CleanWords : Rules → Lines → Words → Words → Type 0
CleanWords rules before here [] = rules.lacks before here ≡ None
CleanWords rules before here (w ∷ ws) =
    (rules.judge before here w ≡ None) × CleanWords rules before (here ++ w ∷ []) ws

-- nothing is against the lines, the last of which is the line `end`
pub data Clean (rules : Rules) : Lines → Lines → Type 0 where
  last : (before : Lines) (words : Words) → CleanWords rules before [] words
      → is_end (head_in words) ≡ true → Clean rules before (words ∷ [])
  more : (before : Lines) (words : Words) (lines : Lines) → CleanWords rules before [] words
      → is_end (head_in words) ≡ false → Clean rules (before ++ words ∷ []) lines
      → Clean rules before (words ∷ lines)

words_behind-same : (line column : ℕ) (ws : Words) → words_of (items_behind line column ws) ≡ ws
unfolding items_behind
words_behind-same line column [] = refl
words_behind-same line column (w ∷ ws) =
    rw (words_behind-same line (column + 1 + length w) ws) refl

words_placed : (line : ℕ) (words : Words) → words_of (placed_items line words) ≡ words
unfolding placed_items
words_placed line [] = refl
words_placed line (w ∷ ws) = rw (words_behind-same line (1 + length w) ws) refl

clean_behind : (rules : Rules) (before : Lines) (here ws : Words) (line column : ℕ) (lack : Place)
    → CleanWords rules before here ws
    → first_in_line rules before here (items_behind line column ws) lack ≡ None
unfolding items_behind
clean_behind rules before here [] line column lack clean = rw clean refl
clean_behind rules before here (w ∷ ws) line column lack clean =
    rw (
      clean.0,
      clean_behind rules before (here ++ w ∷ []) ws line (column + 1 + length w) lack clean.1,
    ) refl

clean_line : (rules : Rules) (before : Lines) (words : Words) (line : ℕ) (lack : Place)
    → CleanWords rules before [] words
    → first_in_line rules before [] (placed_items line words) lack ≡ None
unfolding placed_items
clean_line rules before [] line lack clean = rw clean refl
clean_line rules before (w ∷ ws) line lack clean =
    rw (
      clean.0,
      clean_behind rules before (w ∷ []) ws line (1 + length w) lack clean.1,
    ) refl

and_both : (a b : Bool) → (a && b) ≡ true → (a ≡ true) × (b ≡ true)
and_both true b e = (refl, e)
and_both false b e = absurd (cc e)

-- a line and the lines behind it
placed-cons : (line : ℕ) (words : Words) (lines : Lines) → is_written_line words ≡ true
    → (lack : Place) × (placed_lines line (words ∷ lines)
    ≡ record { items = placed_items line words; lack = lack } ∷ placed_lines (line + 1) lines)
unfolding placed_items placed_lines
placed-cons line [] lines all = absurd (cc all)
placed-cons line (w ∷ ws) lines all = (_, refl)

placed_none : (line : ℕ) → placed_lines line [] ≡ []
unfolding placed_lines
placed_none line = refl

pub record IsRead (rules : Rules) (before lines : Lines) (placed : List Line) (end : Place) : Type 0 where
  pub clean : first_in_section rules before placed end ≡ None
  pub same : section_lines placed ≡ lines
  pub whole : behind_section placed ≡ []

clean_lines : (rules : Rules) (before lines : Lines) (line : ℕ) (end : Place)
    → list_all is_written_line lines ≡ true → Clean rules before lines
    → IsRead rules before lines (placed_lines line lines) end
clean_lines rules _ _ line end all (last before words clean ends) =
    let both = and_both (is_written_line words) true all in
    let place = placed-cons line words [] both.0 in
    let first = clean_line rules before words line place.0 clean in
    let same = words_placed line words in
    rw place.1 (record {
      clean = rw (first, same, ends) refl;
      same = rw (same, ends) refl;
      whole = rw (same, ends) (placed_none (line + 1));
    })
clean_lines rules _ _ line end all (more before words lines clean goes rest) =
    let both = and_both (is_written_line words) (list_all is_written_line lines) all in
    let place = placed-cons line words lines both.0 in
    let first = clean_line rules before words line place.0 clean in
    let same = words_placed line words in
    let later = clean_lines rules (before ++ words ∷ []) lines (line + 1) end both.1 rest in
    rw place.1 (record {
      clean = rw (first, same, goes) later.clean;
      same = rw (same, goes, later.same) refl;
      whole = rw (same, goes) later.whole;
    })

-- the lines of a section that was written behind its header
pub written_read : (rules : Rules) (header : Words) (lines : Lines) (end : Place)
    → list_all is_written_line (header ∷ lines) ≡ true → Clean rules [] lines
    → IsRead rules [] lines (drop 1 (lines_of (text_of (header ∷ lines)))) end
written_read rules header lines end all clean =
    let both = and_both (is_written_line header) (list_all is_written_line lines) all in
    let place = placed-cons 1 header lines both.0 in
    rw (lines_of-text (header ∷ lines) all, place.1)
    (clean_lines rules [] lines 2 end both.1 clean)
