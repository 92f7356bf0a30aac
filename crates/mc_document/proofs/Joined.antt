-- Two texts in a row: the lines of the first and behind them those of the second, which say the same
-- at their later places.
use Rattle.std.proofs.Common.{◌≡◌, ℕ, ◌+◌, Bool, true, false, List, [], ◌∷◌, ◌++◌, map}
use Rattle.std.proofs.Common.{Option, Some, None, refl, sym, ap, ap₂, ◌∙◌, subst, append_assoc}
use Rattle.std.proofs.Common.{if◌then◌else◌}
use Rattle.std.proofs.lemmas.List.{append-nil}
use Rattle.mc_lex.specs.Bytes.{is_feed, is_blank, is_word_byte}
use Rattle.mc_lex.specs.Lines.{Item, word, bad, Line, onto_word, starts_word, tokens, visible}
use Rattle.mc_lex.specs.Lines.{onto_first, parts_of, with_items, numbered, lines_from, lines_of}
use Rattle.mc_write.specs.Text as written
use Rattle.mc_text.specs.Judged.{Judgement, Place, Words, Lines, Rules, placed, or_later, words_of}
use Rattle.mc_text.specs.Judged.{is_last, first_in_line, first_in_section, section_lines}
use Rattle.mc_text.specs.Judged.{behind_section}

-- ---- a text that ends with a line feed

pub record IsEnded (text : List ℕ) : Type 0 where
  pub front : List ℕ
  pub same : text ≡ front ++ 10 ∷ []

pub line_ended : (line : written.Line) → IsEnded (written.line_text line)
line_ended [] = record { front = []; same = refl }
line_ended (first ∷ words) = record {
  front = first ++ written.words_behind words;
  same = sym (append_assoc first (written.words_behind words) (10 ∷ []));
}

behind_ended : (a b : List ℕ) → IsEnded b → IsEnded (a ++ b)
behind_ended a b e = record {
  front = a ++ e.front;
  same = ap (λ (x : List ℕ). a ++ x) e.same ∙ sym (append_assoc a e.front (10 ∷ []));
}

pub text_ended : (line : written.Line) (lines : List written.Line) →
    IsEnded (written.text_of (line ∷ lines))
text_ended line [] =
    rw (append-nil (written.line_text line)) (line_ended line)
text_ended line (next ∷ lines) =
    behind_ended (written.line_text line) (written.text_of (next ∷ lines)) (text_ended next lines)

-- ---- its lines, and those of what stands behind it

onto_first-append : (b : ℕ) (part : List ℕ) (parts more : List (List ℕ)) →
    onto_first b ((part ∷ parts) ++ more) ≡ onto_first b (part ∷ parts) ++ more
onto_first-append b part parts more = refl

record HasPart (parts : List (List ℕ)) : Type 0 where
  first : List ℕ
  others : List (List ℕ)
  same : parts ≡ first ∷ others

onto_has : (b : ℕ) (parts : List (List ℕ)) → HasPart (onto_first b parts)
onto_has b [] = record { first = b ∷ []; others = []; same = refl }
onto_has b (part ∷ parts) = record { first = b ∷ part; others = parts; same = refl }

if_has : (t : Bool) (x y : List (List ℕ)) → HasPart x → HasPart y → HasPart (if t then x else y)
if_has true x y h k = h
if_has false x y h k = k

parts_has : (text : List ℕ) → HasPart (parts_of text)
parts_has [] = record { first = []; others = []; same = refl }
parts_has (b ∷ text) = if_has (is_feed b) ([] ∷ parts_of text) (onto_first b (parts_of text))
    (record { first = []; others = parts_of text; same = refl }) (onto_has b (parts_of text))

onto_more : (b : ℕ) (parts more : List (List ℕ)) → HasPart parts →
    onto_first b (parts ++ more) ≡ onto_first b parts ++ more
onto_more b parts more h = rw h.same refl

if_more : (t : Bool) (x y more : List (List ℕ)) →
    (if t then (x ++ more) else (y ++ more)) ≡ (if t then x else y) ++ more
if_more true x y more = refl
if_more false x y more = refl

parts-append : (front rest : List ℕ) →
    parts_of (front ++ 10 ∷ rest) ≡ parts_of front ++ parts_of rest
parts-append [] rest = refl
parts-append (b ∷ front) rest =
    rw (parts-append front rest, onto_more b (parts_of front) (parts_of rest) (parts_has front))
    (if_more (is_feed b) ([] ∷ parts_of front) (onto_first b (parts_of front)) (parts_of rest))

with_items-append : (number : ℕ) (items : List Item) (lines more : List Line) →
    with_items number items (lines ++ more) ≡ with_items number items lines ++ more
with_items-append number [] lines more = refl
with_items-append number (item ∷ items) lines more = refl

numbered-append : (number : ℕ) (parts more : List (List ℕ)) →
    (later : ℕ) × (numbered number (parts ++ more) ≡ numbered number parts ++ numbered later more)
numbered-append number [] more = (number, refl)
numbered-append number (part ∷ parts) more =
    let rest = numbered-append (number + 1) parts more in
    let items = tokens number 1 (visible part) in (
      rest.0,
      ap (with_items number items) rest.1
          ∙ with_items-append number items (numbered (number + 1) parts) (numbered rest.0 more),
    )

nothing_last : (number : ℕ) → numbered number ([] ∷ []) ≡ []
nothing_last number = refl

pub joined : (a b : List ℕ) → IsEnded a →
    (later : ℕ) × (lines_of (a ++ b) ≡ lines_of a ++ lines_from later b)
joined a b e =
    let text : a ++ b ≡ e.front ++ 10 ∷ b =
    ap (λ (x : List ℕ). x ++ b) e.same ∙ append_assoc e.front (10 ∷ []) b in
    let alone = numbered-append 1 (parts_of e.front) ([] ∷ []) in
    let both = numbered-append 1 (parts_of e.front) (parts_of b) in
    let own : lines_of a ≡ numbered 1 (parts_of e.front) =
    ap lines_of e.same
    ∙ ap (numbered 1) (parts-append e.front [])
    ∙ alone.1
    ∙ append-nil (numbered 1 (parts_of e.front)) in (
      both.0,
      ap lines_of text
          ∙ ap (numbered 1) (parts-append e.front b)
          ∙ both.1
          ∙ ap (λ (x : List Line). x ++ lines_from both.0 b) (sym own),
    )

-- ---- a section with more lines behind it

pub first_of_both : (a b : Option (Judgement × Place)) → or_later a b ≡ None →
    (a ≡ None) × (b ≡ None)
first_of_both None b h = (refl, h)
first_of_both (Some x) b h = absurd (cc h)

pub record IsSection (rules : Rules) (before : Lines) (lines more : List Line) (end : Place) : Type 0
  where
    pub clean : first_in_section rules before (lines ++ more) end ≡ None
    pub same : section_lines (lines ++ more) ≡ section_lines lines
    pub behind : behind_section (lines ++ more) ≡ behind_section lines ++ more

pub section_more : (rules : Rules) (before : Lines) (lines more : List Line) (end end' : Place) →
    first_in_section rules before lines end ≡ None → IsSection rules before lines more end'
section_more rules before [] more end end' clean = absurd (cc clean)
section_more rules before (line ∷ lines) more end end' clean =
    let both = first_of_both _ _ clean in
    by_last (is_last line) refl both.0 both.1
    (section_more rules (before ++ words_of line.items ∷ []) lines more end end')
  where
    by_last : (t : Bool) → is_last line ≡ t →
        first_in_line rules before [] line.items line.lack ≡ None →
        (if is_last line then None
        else first_in_section rules (before ++ words_of line.items ∷ []) lines end) ≡ None →
        (first_in_section rules (before ++ words_of line.items ∷ []) lines end ≡ None →
        IsSection rules (before ++ words_of line.items ∷ []) lines more end') →
        IsSection rules before (line ∷ lines) more end'
    by_last true e here rest next = record {
      clean = rw (here, e) refl;
      same = rw e refl;
      behind = rw e refl;
    }
    by_last false e here rest next =
        let later = next (rw e at rest) in
        record {
          clean = rw (here, e) later.clean;
          same = rw (e, later.same) refl;
          behind = rw e later.behind;
        }

-- ---- the same words at other places

abbrev pub shape : Item → Option (List ℕ)
shape (word bytes line column) = Some bytes
shape (bad line column) = None

abbrev pub shapes : List Item → List (Option (List ℕ))
shapes items = map shape items

abbrev pub line_shapes : List Line → List (List (Option (List ℕ)))
line_shapes lines = map (λ (line : Line). shapes line.items) lines

shape_onto : ℕ → Bool → List (Option (List ℕ)) → List (Option (List ℕ))
shape_onto b true (Some bytes ∷ more) = Some (b ∷ bytes) ∷ more
shape_onto b true (None ∷ more) = Some (b ∷ []) ∷ None ∷ more
shape_onto b true [] = Some (b ∷ []) ∷ []
shape_onto b false more = Some (b ∷ []) ∷ more

onto_shape : (b line column : ℕ) (t : Bool) (items : List Item) →
    shapes (onto_word b line column t items) ≡ shape_onto b t (shapes items)
unfolding shape_onto
onto_shape b line column true [] = refl
onto_shape b line column true (word bytes l c ∷ items) = refl
onto_shape b line column true (bad l c ∷ items) = refl
onto_shape b line column false items = refl

token_shapes : (line line' column column' : ℕ) (bytes : List ℕ) →
    shapes (tokens line column bytes) ≡ shapes (tokens line' column' bytes)
token_shapes line line' column column' [] = refl
token_shapes line line' column column' (b ∷ bytes) =
    by_byte (is_blank b) (is_word_byte b)
    (token_shapes line line' (column + 1) (column' + 1) bytes)
  where
    by_byte : (t s : Bool) →
        shapes (tokens line (column + 1) bytes) ≡ shapes (tokens line' (column' + 1) bytes) →
        shapes (if t then tokens line (column + 1) bytes
        else (if s then onto_word b line column (starts_word bytes) (tokens line (column + 1) bytes)
        else bad line column ∷ tokens line (column + 1) bytes))
        ≡ shapes (if t then tokens line' (column' + 1) bytes
        else (if s
        then onto_word b line' column' (starts_word bytes) (tokens line' (column' + 1) bytes)
        else bad line' column' ∷ tokens line' (column' + 1) bytes))
    by_byte true s same = same
    by_byte false true same =
        onto_shape b line column (starts_word bytes) (tokens line (column + 1) bytes)
        ∙ ap (shape_onto b (starts_word bytes)) same
        ∙ sym (onto_shape b line' column' (starts_word bytes) (tokens line' (column' + 1) bytes))
    by_byte false false same = ap (λ (x : List (Option (List ℕ))). None ∷ x) same

items_shapes : (number number' : ℕ) (items items' : List Item) (lines lines' : List Line) →
    shapes items ≡ shapes items' → line_shapes lines ≡ line_shapes lines' →
    line_shapes (with_items number items lines) ≡ line_shapes (with_items number' items' lines')
items_shapes number number' [] [] lines lines' same rest = rest
items_shapes number number' [] (item ∷ items') lines lines' same rest = absurd (cc same)
items_shapes number number' (item ∷ items) [] lines lines' same rest = absurd (cc same)
items_shapes number number' (item ∷ items) (item' ∷ items') lines lines' same rest =
    ap₂ (λ (x : List (Option (List ℕ))) (y : List (List (Option (List ℕ)))). x ∷ y) same rest

pub numbered_shapes : (number number' : ℕ) (parts : List (List ℕ)) →
    line_shapes (numbered number parts) ≡ line_shapes (numbered number' parts)
numbered_shapes number number' [] = refl
numbered_shapes number number' (part ∷ parts) =
    items_shapes number number' (tokens number 1 (visible part)) (tokens number' 1 (visible part))
    (numbered (number + 1) parts) (numbered (number' + 1) parts)
    (token_shapes number number' 1 1 (visible part))
    (numbered_shapes (number + 1) (number' + 1) parts)

pub words_same : (items items' : List Item) → shapes items ≡ shapes items' →
    words_of items ≡ words_of items'
words_same [] [] e = refl
words_same [] (item ∷ items') e = absurd (cc e)
words_same (item ∷ items) [] e = absurd (cc e)
words_same (word b l c ∷ items) (word b' l' c' ∷ items') e =
    let first : b ≡ b' = cc e in
    let rest : shapes items ≡ shapes items' = cc e in
    ap₂ (λ (x : List ℕ) (y : Words). x ∷ y) first (words_same items items' rest)
words_same (word b l c ∷ items) (bad l' c' ∷ items') e = absurd (cc e)
words_same (bad l c ∷ items) (word b' l' c' ∷ items') e = absurd (cc e)
words_same (bad l c ∷ items) (bad l' c' ∷ items') e =
    let rest : shapes items ≡ shapes items' = cc e in
    ap (λ (y : Words). [] ∷ y) (words_same items items' rest)

unplaced : (place : Place) (judged : Option Judgement) → placed place judged ≡ None → judged ≡ None
unplaced place None e = refl
unplaced place (Some judged) e = absurd (cc e)

pub line_same : (rules : Rules) (before : Lines) (here : Words) (items items' : List Item)
    (lack lack' : Place) → shapes items ≡ shapes items' →
    first_in_line rules before here items lack ≡ None →
    first_in_line rules before here items' lack' ≡ None
line_same rules before here [] [] lack lack' e clean =
    let none = unplaced lack (rules.lacks before here) clean in rw none refl
line_same rules before here [] (item ∷ items') lack lack' e clean = absurd (cc e)
line_same rules before here (item ∷ items) [] lack lack' e clean = absurd (cc e)
line_same rules before here (bad l c ∷ items) (item' ∷ items') lack lack' e clean = absurd (cc clean)
line_same rules before here (word b l c ∷ items) (bad l' c' ∷ items') lack lack' e clean =
    absurd (cc e)
line_same rules before here (word b l c ∷ items) (word b' l' c' ∷ items') lack lack' e clean =
    let first : b ≡ b' = cc e in
    let rest : shapes items ≡ shapes items' = cc e in
    let both = first_of_both _ _ clean in
    let none : rules.judge before here b' ≡ None =
    ap (rules.judge before here) (sym first)
    ∙ unplaced (l, c) (rules.judge before here b) both.0 in
    let later : first_in_line rules before (here ++ b' ∷ []) items' lack' ≡ None =
    subst (λ (x : List ℕ). first_in_line rules before (here ++ x ∷ []) items' lack' ≡ None) first
    (line_same rules before (here ++ b ∷ []) items items' lack lack' rest both.1) in
    rw (none, later) refl

pub record IsSameSection (rules : Rules) (before : Lines) (lines lines' : List Line) (end : Place)
    : Type 0 where
  pub clean : first_in_section rules before lines' end ≡ None
  pub same : section_lines lines' ≡ section_lines lines
  pub behind : line_shapes (behind_section lines) ≡ line_shapes (behind_section lines')

pub section_same : (rules : Rules) (before : Lines) (lines lines' : List Line) (end end' : Place) →
    line_shapes lines ≡ line_shapes lines' → first_in_section rules before lines end ≡ None →
    IsSameSection rules before lines lines' end'
section_same rules before [] lines' end end' e clean = absurd (cc clean)
section_same rules before (line ∷ lines) [] end end' e clean = absurd (cc e)
section_same rules before (line ∷ lines) (line' ∷ lines') end end' e clean =
    let first : shapes line.items ≡ shapes line'.items = cc e in
    let rest : line_shapes lines ≡ line_shapes lines' = cc e in
    let words = words_same line.items line'.items first in
    let both = first_of_both _ _ clean in
    let here = line_same rules before [] line.items line'.items line.lack line'.lack first both.0 in
    by_last (is_last line) refl words rest here both.1
    (section_same rules (before ++ words_of line.items ∷ []) lines lines' end end' rest)
  where
    by_last : (t : Bool) → is_last line ≡ t → words_of line.items ≡ words_of line'.items →
        line_shapes lines ≡ line_shapes lines' →
        first_in_line rules before [] line'.items line'.lack ≡ None →
        (if is_last line then None
        else first_in_section rules (before ++ words_of line.items ∷ []) lines end) ≡ None →
        (first_in_section rules (before ++ words_of line.items ∷ []) lines end ≡ None →
        IsSameSection rules (before ++ words_of line.items ∷ []) lines lines' end') →
        IsSameSection rules before (line ∷ lines) (line' ∷ lines') end'
    by_last true last words rest here later go =
        let last' = rw words at last in
        record {
          clean = rw (here, last') refl;
          same = rw (last', last, words) refl;
          behind = rw (last', last) rest;
        }
    by_last false last words rest here later go =
        let last' = rw words at last in
        let next = go (rw last at later) in
        record {
          clean = rw (here, last', ← words) next.clean;
          same = rw (last', last, words, next.same) refl;
          behind = rw (last', last) next.behind;
        }
