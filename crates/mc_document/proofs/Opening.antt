-- A document behind its header, and a second section behind its own.
use Rattle.std.proofs.Common.{◌≡◌, ℕ, zero, suc, List, [], ◌∷◌, true, Option, Some, None, refl, sym}
use Rattle.std.proofs.Common.{◌∙◌, ap, subst, false}
use Rattle.std.proofs.Common.{if◌then◌else◌}
use Rattle.std.specs.Option.{option_map}
use Rattle.mc_lex.specs.declared.kind.Kind.{Kind}
use Rattle.mc_lex.specs.declared.kind.Kind.TheVariants.{Pattern, Change, Trace}
use Rattle.mc_lex.specs.declared.kind.Kind.TheVariants.{Flow, NoFlow, NoCausal, Least}
use Rattle.mc_lex.specs.Lines.{Item, word, bad, Line}
use Rattle.mc_lex.specs.declared.end.TextEnd.{TextEnd}
use Rattle.mc_lex.specs.declared.end.TextEnd.TheVariants as end
use Rattle.mc_lex.specs.Left.{Left, has_line, on_first, tokens_on, lines_on, IsFurther}
use Rattle.mc_text.specs.declared.fault.Fault.{Fault}
use Rattle.mc_text.specs.declared.fault.Fault.TheVariants.{NoKind, BehindEnd, NoSecond}
use Rattle.mc_text.specs.declared.form.Form.{Form}
use Rattle.mc_text.specs.Judged.{Judgement, Lines, Place, Rules, fault, placed, or_later, words_of}
use Rattle.mc_text.specs.Judged.{first_in_section, section_lines, behind_section}
use Rattle.mc_text.specs.Headers.{plain_forms, first_in_header, IsHeader, kind_in, version_in}
use Rattle.mc_text.specs.Stops.{IsEnd}
use Rattle.mc_cert_text.specs.Kinds.{IsCertKind}
use Rattle.mc_document.specs.declared.takes.Takes.{Takes}
use Rattle.mc_document.specs.Documents.{first_form, refused_kind}
use Rattle.mc_document.specs.Second.{Second, first_behind_first, first_in_second, spelled_second}
use Rattle.mc_document.specs.Second.{form_behind_pattern, refused_behind_graph}
use Rattle.mc_document.specs.Second.{refused_behind_pattern}
use Rattle.mc_document.specs.Sections.{StandsBehindPattern, first_in_kind, first_in_lines}
use Rattle.mc_document.specs.Sections.{spelled_in_kind, spelled_lines}
use Rattle.mc_document.specs.Places.{place_in, place_in_lines}
use Rattle.mc_document.proofs.Joined.{first_of_both}

header_kind : (kind : Kind) (place : Place) (items : List Item) → IsHeader kind place items →
    kind_in (words_of items) ≡ Some kind
header_kind kind place [] h = absurd h
header_kind kind place (word bytes line column ∷ items) h = h.0
header_kind kind place (bad line column ∷ items) h = absurd h

first_by_kind : (half : ℕ) (takes : Takes) (lines : List Line) (end : Place) (kind : Kind)
    (place : Place) → has_line lines ≡ true → IsHeader kind place (on_first lines end).here →
    first_in_header (refused_kind takes) NoKind first_form (on_first lines end).here
    (on_first lines end).lack ≡ None →
    first_in_lines half takes lines end
    ≡ first_in_kind half takes (Some kind) (version_in (words_of (on_first lines end).here))
    (on_first lines end).later end
first_by_kind half takes [] end kind place some h clean = absurd (cc)
first_by_kind half takes (line ∷ lines) end kind place some h clean =
    rw (clean, header_kind kind place line.items h) refl

spelled_by_kind : (half : ℕ) (lines : List Line) (end : Place) (kind : Kind) (place : Place) →
    has_line lines ≡ true → IsHeader kind place (on_first lines end).here →
    spelled_lines half lines ≡ spelled_in_kind half (Some kind) (on_first lines end).later
spelled_by_kind half [] end kind place some h = absurd (cc)
spelled_by_kind half (line ∷ lines) end kind place some h =
    rw (header_kind kind place line.items h) refl

-- `opened` stands on the first of the lines, a header of this kind, and `headed` behind it
pub record IsOpened (lines : List Line) (end : Place) (opened headed : Left) (kind : Kind)
    (place : Place) : Type 0 where
  pub some : has_line lines ≡ true
  pub opens : opened ≡ on_first lines end
  pub header : IsHeader kind place opened.here
  pub later : headed.later ≡ opened.later
  pub last : headed.last ≡ opened.last

last_kept : (lines : List Line) (end : Place) → (on_first lines end).last ≡ end
last_kept [] end = refl
last_kept (line ∷ lines) end = refl

header_on : (lines : List Line) (end : Place) (opened headed : Left) (kind : Kind) (place : Place) →
    IsOpened lines end opened headed kind place → IsHeader kind place (on_first lines end).here
header_on lines end opened headed kind place o =
    subst (λ (left : Left). IsHeader kind place left.here) o.opens o.header

later_on : (lines : List Line) (end : Place) (opened headed : Left) (kind : Kind) (place : Place) →
    IsOpened lines end opened headed kind place → headed.later ≡ (on_first lines end).later
later_on lines end opened headed kind place o =
    o.later ∙ ap (λ (left : Left). left.later) o.opens

last_on : (lines : List Line) (end : Place) (opened headed : Left) (kind : Kind) (place : Place) →
    IsOpened lines end opened headed kind place → headed.last ≡ end
last_on lines end opened headed kind place o =
    o.last ∙ ap (λ (left : Left). left.last) o.opens ∙ last_kept lines end

pub opened_first : (half : ℕ) (takes : Takes) (lines : List Line) (end : Place)
    (opened headed : Left) (kind : Kind) (place : Place) →
    IsOpened lines end opened headed kind place →
    first_in_header (refused_kind takes) NoKind first_form opened.here opened.lack ≡ None →
    first_in_lines half takes lines end
    ≡ first_in_kind half takes (Some kind) (version_in (words_of opened.here)) headed.later
    headed.last
opened_first half takes lines end opened headed kind place o clean =
    let header = header_on lines end opened headed kind place o in
    let none = subst
    (λ (left : Left). first_in_header (refused_kind takes) NoKind first_form left.here
    left.lack ≡ None)
    o.opens clean in
    let later = later_on lines end opened headed kind place o in
    let last = last_on lines end opened headed kind place o in
    let version = ap (λ (left : Left). version_in (words_of left.here)) o.opens in
    rw (later, last, version) (first_by_kind half takes lines end kind place o.some header none)

pub opened_spelled : (half : ℕ) (lines : List Line) (end : Place) (opened headed : Left)
    (kind : Kind) (place : Place) → IsOpened lines end opened headed kind place →
    spelled_lines half lines ≡ spelled_in_kind half (Some kind) headed.later
opened_spelled half lines end opened headed kind place o =
    let header = header_on lines end opened headed kind place o in
    let later = later_on lines end opened headed kind place o in
    rw later (spelled_by_kind half lines end kind place o.some header)

-- an end that answers the first of two
pub end_first : (given : TextEnd) (first later : Option (Judgement × Place)) → IsEnd given first →
    IsEnd given (or_later first later)
end_first (end.Refused code line column) None later h = absurd (cc h)
end_first (end.Refused code line column) (Some judged) later h = h
end_first (end.Limit which found) None later h = absurd (cc h)
end_first (end.Limit which found) (Some judged) later h = h
end_first end.Memory first later h = tt

place_at : (kind : Kind) (place : Place) (items : List Item) (lack : Place) →
    IsHeader kind place items → place_in items lack ≡ place
place_at kind place [] lack h = absurd h
place_at kind place (word bytes line column ∷ items) lack h = sym h.1
place_at kind place (bad line column ∷ items) lack h = absurd h

place_by_header : (lines : List Line) (end : Place) (kind : Kind) (place : Place) →
    has_line lines ≡ true → IsHeader kind place (on_first lines end).here →
    place_in_lines lines end ≡ place
place_by_header [] end kind place some h = absurd (cc)
place_by_header (line ∷ lines) end kind place some h = place_at kind place line.items line.lack h

-- the word that names the kind is the first one
pub opened_place : (lines : List Line) (end : Place) (opened headed : Left) (kind : Kind)
    (place : Place) → IsOpened lines end opened headed kind place → place_in_lines lines end ≡ place
opened_place lines end opened headed kind place o =
    place_by_header lines end kind place o.some (header_on lines end opened headed kind place o)

-- the answer to a fault of the header
pub header_first : (half : ℕ) (takes : Takes) (lines : List Line) (end : Place) (opened : Left)
    (given : TextEnd) → has_line lines ≡ true → opened ≡ on_first lines end →
    IsEnd given (first_in_header (refused_kind takes) NoKind first_form opened.here
    opened.lack) →
    IsEnd given (first_in_lines half takes lines end)
header_first half takes [] end opened given some opens h = absurd (cc)
header_first half takes (line ∷ lines) end opened given some opens h =
    end_first given _ _ (subst (λ (left : Left). IsEnd given
    (first_in_header (refused_kind takes) NoKind first_form left.here left.lack)) opens h)

pub unrefused : (place : Place) (refused : Option Fault) →
    placed place (option_map fault refused) ≡ None → refused ≡ None
unrefused place None clean = refl
unrefused place (Some broken) clean = absurd (cc clean)

-- a header that nothing is against names a kind that is not refused
kind_stands : (refused : Kind → Option Fault) (unknown : Fault) (form : Kind → Form)
    (items : List Item) (lack : Place) (kind : Kind) (place : Place) → IsHeader kind place items →
    first_in_header refused unknown form items lack ≡ None → refused kind ≡ None
kind_stands refused unknown form [] lack kind place h clean = absurd h
kind_stands refused unknown form (word bytes line column ∷ items) lack kind place h clean =
    unrefused (line, column) (refused kind) (first_of_both _ _ (rw h.0 at clean)).0
kind_stands refused unknown form (bad line column ∷ items) lack kind place h clean = absurd h

pub starts : (takes : Takes) (items : List Item) (lack : Place) (kind : Kind) (place : Place) →
    IsHeader kind place items →
    first_in_header (refused_kind takes) NoKind first_form items lack ≡ None →
    refused_kind takes kind ≡ None
starts takes items lack kind place h clean =
    kind_stands (refused_kind takes) NoKind first_form items lack kind place h clean

-- the header behind a graph that nothing is against is that of a certificate
pub certifies : (kind : Kind) → refused_behind_graph kind ≡ None → IsCertKind kind
certifies Flow clean = tt
certifies NoFlow clean = tt
certifies NoCausal clean = tt
certifies Least clean = tt
certifies _ clean = absurd (cc clean)

pub starts_cert : (items : List Item) (lack : Place) (kind : Kind) (place : Place) →
    IsHeader kind place items →
    first_in_header refused_behind_graph BehindEnd plain_forms items lack ≡ None → IsCertKind kind
starts_cert items lack kind place h clean =
    certifies kind
    (kind_stands refused_behind_graph BehindEnd plain_forms items lack kind place h clean)

-- what nothing is against behind a pattern is a change, a trace or a second pattern
stands_behind : (takes : Takes) (kind : Kind) → refused_behind_pattern takes kind ≡ None →
    StandsBehindPattern kind
stands_behind takes Pattern clean = tt
stands_behind takes Change clean = tt
stands_behind takes Trace clean = tt
stands_behind takes _ clean = absurd (cc clean)

pub starts_second : (half : ℕ) (takes : Takes) (items : List Item) (lack : Place) (kind : Kind)
    (place : Place) → IsHeader kind place items →
    first_in_header (refused_behind_pattern takes) BehindEnd (form_behind_pattern half) items lack
    ≡ None → StandsBehindPattern kind
starts_second half takes items lack kind place h clean =
    stands_behind takes kind
    (kind_stands (refused_behind_pattern takes) BehindEnd (form_behind_pattern half) items lack
    kind place h clean)

-- the same for what stands behind a first section
second_by_kind : (second : Second) (lines : List Line) (end : Place) (kind : Kind) (place : Place) →
    has_line lines ≡ true → IsHeader kind place (on_first lines end).here →
    first_in_header second.refused BehindEnd second.form (on_first lines end).here
    (on_first lines end).lack ≡ None →
    first_behind_first second lines end
    ≡ first_in_second second (Some kind) (version_in (words_of (on_first lines end).here))
    (on_first lines end).later end
second_by_kind second [] end kind place some h clean = absurd (cc)
second_by_kind second (line ∷ lines) end kind place some h clean =
    rw (clean, header_kind kind place line.items h) refl

pub second_first : (second : Second) (lines : List Line) (end : Place) (opened headed : Left)
    (kind : Kind) (place : Place) → IsOpened lines end opened headed kind place →
    first_in_header second.refused BehindEnd second.form opened.here opened.lack ≡ None →
    first_behind_first second lines end
    ≡ first_in_second second (Some kind) (version_in (words_of opened.here)) headed.later
    headed.last
second_first second lines end opened headed kind place o clean =
    let header = header_on lines end opened headed kind place o in
    let none = subst
    (λ (left : Left). first_in_header second.refused BehindEnd second.form left.here left.lack
    ≡ None)
    o.opens clean in
    let later = later_on lines end opened headed kind place o in
    let last = last_on lines end opened headed kind place o in
    let version = ap (λ (left : Left). version_in (words_of left.here)) o.opens in
    rw (later, last, version) (second_by_kind second lines end kind place o.some header none)

-- the answer to a fault of the header of a second section
pub second_header : (second : Second) (lines : List Line) (end : Place) (opened : Left)
    (given : TextEnd) → has_line lines ≡ true → opened ≡ on_first lines end →
    IsEnd given (first_in_header second.refused BehindEnd second.form opened.here opened.lack) →
    IsEnd given (first_behind_first second lines end)
second_header second [] end opened given some opens h = absurd (cc)
second_header second (line ∷ lines) end opened given some opens h =
    end_first given _ _ (subst (λ (left : Left). IsEnd given
    (first_in_header second.refused BehindEnd second.form left.here left.lack)) opens h)

spelled_by_named : {A : Type 0} (spells : Kind → Place → Lines → A) (lines : List Line)
    (end : Place) (kind : Kind) (place : Place) → has_line lines ≡ true →
    IsHeader kind place (on_first lines end).here →
    spelled_second spells lines
    ≡ Some (spells kind place (section_lines (on_first lines end).later))
spelled_by_named spells [] end kind place some h = absurd (cc)
spelled_by_named spells (line ∷ lines) end kind place some h =
    rw (header_kind kind place line.items h, place_at kind place line.items line.lack h) refl

pub second_spelled : {A : Type 0} (spells : Kind → Place → Lines → A) (lines : List Line)
    (end : Place) (opened headed : Left) (kind : Kind) (place : Place) →
    IsOpened lines end opened headed kind place →
    spelled_second spells lines ≡ Some (spells kind place (section_lines headed.later))
second_spelled spells lines end opened headed kind place o =
    let later = later_on lines end opened headed kind place o in
    let header = header_on lines end opened headed kind place o in
    rw later (spelled_by_named spells lines end kind place o.some header)

-- no line stands behind a first section
pub none_behind : (second : Second) (lines : List Line) (end : Place) → has_line lines ≡ false →
    first_behind_first second lines end ≡ (if second.due then Some (fault NoSecond, end) else None)
none_behind second [] end none = refl
none_behind second (line ∷ lines) end none = absurd (cc)

pub none_spelled : {A : Type 0} (spells : Kind → Place → Lines → A) (lines : List Line) →
    has_line lines ≡ false → spelled_second spells lines ≡ None
none_spelled spells [] none = refl
none_spelled spells (line ∷ lines) none = absurd (cc)

-- the first of both sections, behind a first without fault
pub both_sections : {A : Type 0} (rules : Rules) (behind : A → Second) (value : Lines → A)
    (lines later : List Line) (end last : Place) (x : A) →
    first_in_section rules [] lines end ≡ None → x ≡ value (section_lines lines) →
    later ≡ behind_section lines → last ≡ end →
    or_later (first_in_section rules [] lines end)
    (first_behind_first (behind (value (section_lines lines))) (behind_section lines) end)
    ≡ first_behind_first (behind x) later last
both_sections {A} rules behind value lines later end last x clean same rest ends =
    ap (λ (found : Option (Judgement × Place)). or_later found
    (first_behind_first (behind (value (section_lines lines))) (behind_section lines) end)) clean
    ∙ ap (λ (y : A). first_behind_first (behind y) (behind_section lines) end) (sym same)
    ∙ ap (λ (ls : List Line). first_behind_first (behind x) ls end) (sym rest)
    ∙ ap (λ (place : Place). first_behind_first (behind x) later place) (sym ends)

-- a reader further on has the same end of the text
tokens_last : (k : ℕ) (left : Left) → (tokens_on k left).last ≡ left.last
tokens_last zero left = refl
tokens_last (suc k) left = tokens_last k left

lines_last : (n : ℕ) (left : Left) → (lines_on n left).last ≡ left.last
lines_last zero left = refl
lines_last (suc n) left =
    last_kept (lines_on n left).later (lines_on n left).last ∙ lines_last n left

pub further_last : (left left' : Left) → IsFurther left left' → left'.last ≡ left.last
further_last left left' h =
    ap (λ (l : Left). l.last) h.stands
    ∙ tokens_last h.tokens (lines_on h.lines left)
    ∙ lines_last h.lines left
