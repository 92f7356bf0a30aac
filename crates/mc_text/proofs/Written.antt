-- The lines of a text that was written are the lines that were written.
use Rattle.std.proofs.Common.{◌≡◌, ℕ, suc, ◌+◌, List, [], ◌∷◌, ◌++◌, Bool, true, false, not, ◌&&◌}
use Rattle.std.proofs.Common.{◌||◌, length, refl, ◌∙◌, append_assoc, arith, ◌==◌}
use Rattle.std.specs.List.{list_all, prefix_len}
use Rattle.std.proofs.Math.Seq.{take-length}
use Rattle.std.proofs.lemmas.Bool.Decides.{nat_tests}
use Rattle.std.proofs.lemmas.List.Folds.{list_all-append}
use Rattle.mc_lex.specs.Bytes.{is_feed, is_hash, is_blank, is_word_byte}
use Rattle.mc_lex.specs.Lines.{Item, word, Line, tokens, starts_word, visible, parts_of, with_items}
use Rattle.mc_lex.specs.Lines.{numbered, lines_of}
use Rattle.mc_write.specs.Text.{words_behind, line_text, text_of}
use Rattle.mc_text.specs.Judged.{Words, Lines}

-- words that can be written: of one byte at least, each of a word
abbrev pub is_written : List ℕ → Bool
is_written [] = false
is_written (b ∷ bs) = list_all is_word_byte (b ∷ bs)

abbrev pub is_written_line : Words → Bool
is_written_line [] = false
is_written_line (w ∷ ws) = list_all is_written (w ∷ ws)

-- the words behind a column, with a blank before each
unfoldable pub items_behind : ℕ → ℕ → Words → List Item
items_behind line column [] = []
items_behind line column (w ∷ ws) =
    word w line (column + 1) ∷ items_behind line (column + 1 + length w) ws

-- the lines, from a number on
unfoldable pub placed_items : ℕ → Words → List Item
placed_items line [] = []
placed_items line (w ∷ ws) = word w line 1 ∷ items_behind line (1 + length w) ws

unfoldable pub placed_lines : ℕ → Lines → List Line
placed_lines line [] = []
placed_lines line (words ∷ lines) =
    with_items line (placed_items line words) (placed_lines (line + 1) lines)

and_both : (a b : Bool) → (a && b) ≡ true → (a ≡ true) × (b ≡ true)
and_both true b e = (refl, e)
and_both false b e = absurd (cc e)

word_not_blank : (b : ℕ) → is_word_byte b ≡ true → is_blank b ≡ false
word_not_blank b e = grind (arith, nat_tests)

-- a word in front
tokens-front : (line column b : ℕ) (w rest : List ℕ) → is_word_byte b ≡ true
    → list_all is_word_byte w ≡ true → starts_word rest ≡ false
    → tokens line column (b ∷ (w ++ rest))
    ≡ word (b ∷ w) line column ∷ tokens line (column + 1 + length w) rest
tokens-front line column b [] rest e all stops =
    let none = word_not_blank b e in
    let k : column + 1 + 0 ≡ column + 1 = omega arith in
    rw (none, e, stops, k) refl
tokens-front line column b (c ∷ w) rest e all stops =
    let none = word_not_blank b e in
    let both = and_both (is_word_byte c) (list_all is_word_byte w) all in
    let later = tokens-front line (column + 1) c w rest both.0 both.1 stops in
    let k : column + 1 + suc (length w) ≡ column + 1 + 1 + length w = omega arith in
    rw (none, e, later, both.0, k) refl

behind_stops : (ws : Words) → starts_word (words_behind ws) ≡ false
behind_stops [] = refl
behind_stops (w ∷ ws) = refl

tokens-behind : (line column : ℕ) (ws : Words) → list_all is_written ws ≡ true
    → tokens line column (words_behind ws) ≡ items_behind line column ws
unfolding items_behind
tokens-behind line column [] all = refl
tokens-behind line column ([] ∷ ws) all = absurd (cc all)
tokens-behind line column ((b ∷ w) ∷ ws) all =
    let both = and_both (is_written (b ∷ w)) (list_all is_written ws) all in
    let bytes = and_both (is_word_byte b) (list_all is_word_byte w) both.0 in
    let k : column + 1 + 1 + length w ≡ column + 1 + suc (length w) = omega arith in
    tokens-front line (column + 1) b w (words_behind ws) bytes.0 bytes.1 (behind_stops ws)
    ∙ rw (k, tokens-behind line (column + 1 + suc (length w)) ws both.1) refl

-- the bytes of a line
line_bytes : Words → List ℕ
line_bytes [] = []
line_bytes (w ∷ ws) = w ++ words_behind ws

tokens-line : (line : ℕ) (words : Words) → is_written_line words ≡ true
    → tokens line 1 (line_bytes words) ≡ placed_items line words
unfolding placed_items line_bytes
tokens-line line [] all = absurd (cc all)
tokens-line line ([] ∷ ws) all = absurd (cc all)
tokens-line line ((b ∷ w) ∷ ws) all =
    let both = and_both (is_written (b ∷ w)) (list_all is_written ws) all in
    let bytes = and_both (is_word_byte b) (list_all is_word_byte w) both.0 in
    let k : 1 + 1 + length w ≡ 1 + suc (length w) = omega arith in
    tokens-front line 1 b w (words_behind ws) bytes.0 bytes.1 (behind_stops ws)
    ∙ rw (k, tokens-behind line (1 + suc (length w)) ws both.1) refl

-- neither a line feed nor a comment stands in a line
is_shown : ℕ → Bool
is_shown b = is_word_byte b || (b == 32)

word_shown : (w : List ℕ) → list_all is_word_byte w ≡ true → list_all is_shown w ≡ true
unfolding is_shown
word_shown [] all = refl
word_shown (b ∷ w) all =
    let both = and_both (is_word_byte b) (list_all is_word_byte w) all in
    rw (both.0, word_shown w both.1) refl

written_shown : (w : List ℕ) → is_written w ≡ true → list_all is_shown w ≡ true
written_shown [] e = absurd (cc e)
written_shown (b ∷ w) e = word_shown (b ∷ w) e

behind_shown : (ws : Words) → list_all is_written ws ≡ true
    → list_all is_shown (words_behind ws) ≡ true
unfolding is_shown
behind_shown [] all = refl
behind_shown (w ∷ ws) all =
    let both = and_both (is_written w) (list_all is_written ws) all in
    list_all-append is_shown w (words_behind ws)
    ∙ rw (written_shown w both.0, behind_shown ws both.1) refl

line_shown : (words : Words) → is_written_line words ≡ true
    → list_all is_shown (line_bytes words) ≡ true
unfolding line_bytes
line_shown [] all = absurd (cc all)
line_shown (w ∷ ws) all =
    let both = and_both (is_written w) (list_all is_written ws) all in
    list_all-append is_shown w (words_behind ws)
    ∙ rw (written_shown w both.0, behind_shown ws both.1) refl

shown_no_feed : (b : ℕ) → is_shown b ≡ true → is_feed b ≡ false
unfolding is_shown
shown_no_feed b e = grind (arith, nat_tests)

shown_no_hash : (b : ℕ) → is_shown b ≡ true → is_hash b ≡ false
unfolding is_shown
shown_no_hash b e = grind (arith, nat_tests)

no_hash_len : (bytes : List ℕ) → list_all is_shown bytes ≡ true
    → prefix_len (λ b. not (is_hash b)) bytes ≡ length bytes
no_hash_len [] all = refl
no_hash_len (b ∷ bytes) all =
    let both = and_both (is_shown b) (list_all is_shown bytes) all in
    let none = shown_no_hash b both.0 in
    let rest = no_hash_len bytes both.1 in
    rw (none, rest) (omega arith)

visible_all : (bytes : List ℕ) → list_all is_shown bytes ≡ true → visible bytes ≡ bytes
visible_all bytes all =
    let len = no_hash_len bytes all in
    rw len (take-length bytes)

parts-line : (bytes rest : List ℕ) → list_all is_shown bytes ≡ true
    → parts_of (bytes ++ 10 ∷ rest) ≡ bytes ∷ parts_of rest
parts-line [] rest all = refl
parts-line (b ∷ bytes) rest all =
    let both = and_both (is_shown b) (list_all is_shown bytes) all in
    rw (shown_no_feed b both.0, parts-line bytes rest both.1) refl

text-line : (words : Words) (rest : List ℕ) → is_written_line words ≡ true
    → line_text words ++ rest ≡ line_bytes words ++ 10 ∷ rest
unfolding line_bytes
text-line [] rest all = absurd (cc all)
text-line (w ∷ ws) rest all =
    simp append_assoc

numbered-text : (line : ℕ) (lines : Lines) → list_all is_written_line lines ≡ true
    → numbered line (parts_of (text_of lines)) ≡ placed_lines line lines
unfolding placed_lines
numbered-text line [] all = refl
numbered-text line (words ∷ lines) all =
    let both = and_both (is_written_line words) (list_all is_written_line lines) all in
    let shown = line_shown words both.0 in
    rw (
      text-line words (text_of lines) both.0,
      parts-line (line_bytes words) (text_of lines) shown,
      visible_all (line_bytes words) shown,
      tokens-line line words both.0,
      numbered-text (line + 1) lines both.1,
    ) refl

pub lines_of-text : (lines : Lines) → list_all is_written_line lines ≡ true
    → lines_of (text_of lines) ≡ placed_lines 1 lines
lines_of-text lines all = numbered-text 1 lines all
