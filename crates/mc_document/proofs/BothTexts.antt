-- Texts that begin with a header, with another text behind them or as a second section.
use Rattle.std.proofs.Common.{◌≡◌, ℕ, List, [], ◌∷◌, ◌++◌, drop, Some, None, refl, ap, ◌∙◌}
use Rattle.mc_lex.specs.declared.kind.Kind.{Kind}
use Rattle.mc_lex.specs.Lines.{Line, lines_from, lines_of, end_of, parts_of}
use Rattle.mc_text.specs.Headers.{half_in}
use Rattle.mc_text.specs.Judged.{Lines, Place, Rules, first_in_section}
use Rattle.mc_text.specs.Judged.{section_lines, behind_section}
use Rattle.mc_document.specs.declared.takes.Takes.{Takes}
use Rattle.mc_document.specs.Documents.{first_form, refused_kind}
use Rattle.mc_document.specs.Places.{place_in}
use Rattle.mc_document.specs.Second.{Second, first_behind_first, spelled_second}
use Rattle.mc_document.specs.Sections.{first_in_kind, first_in_lines, first_in_text, spelled}
use Rattle.mc_document.specs.Sections.{spelled_in_kind, spelled_lines}
use Rattle.mc_document.specs.Turns.{first_words, half_of}
use Rattle.mc_document.proofs.Headers.{HasHeader, Permits, header_clean, named, stepped}
use Rattle.mc_document.proofs.Headers.{versioned}
use Rattle.mc_document.proofs.Joined.{IsEnded, joined, numbered_shapes, section_more}
use Rattle.mc_document.proofs.Seconds.{second_same}

-- the lines of a text behind its header have no fault, end where the text does, and spell `x`
pub record IsReadAs {A : Type 0} (rules : Rules) (value : Lines → A) (text : List ℕ) (x : A)
    : Type 0 where
  pub clean : first_in_section rules [] (drop 1 (lines_of text)) (end_of text) ≡ None
  pub whole : behind_section (drop 1 (lines_of text)) ≡ []
  pub same : value (section_lines (drop 1 (lines_of text))) ≡ x

-- ---- a text with another one behind it, which may be empty

-- the lines of both behind the header
abbrev pub both_lines : (first second : List ℕ) → IsEnded first → List Line
both_lines first second ended =
    drop 1 (lines_of first) ++ lines_from (joined first second ended).0 second

pub record IsBoth {A : Type 0} (rules : Rules) (behind : Second) (spells : Kind → Place → Lines → A)
    (first second : List ℕ) (lines : List Line) (end : Place) : Type 0 where
  pub clean : first_in_section rules [] lines end ≡ None
  pub same : section_lines lines ≡ section_lines (drop 1 (lines_of first))
  pub stands : first_behind_first behind (behind_section lines) end ≡ None
  pub place : Place
  pub spelled : spelled_second spells (behind_section lines)
      ≡ spelled_second (λ kind here. spells kind place) (lines_of second)

pub both_read : {A B : Type 0} (rules : Rules) (behind : Second)
    (spells : Kind → Place → Lines → A) (value : Lines → B) (x : B) (first second : List ℕ)
    (ended : IsEnded first) (end : Place) → IsReadAs rules value first x →
    first_behind_first behind (lines_of second) (end_of second) ≡ None →
    IsBoth rules behind spells first second (both_lines first second ended) end
both_read rules behind spells value x first second ended end read clean =
    let later = (joined first second ended).0 in
    let more = lines_from later second in
    let at = section_more rules [] (drop 1 (lines_of first)) more (end_of first) end read.clean in
    let rest : behind_section (both_lines first second ended) ≡ more =
    at.behind ∙ ap (λ (x : List Line). x ++ more) read.whole in
    let moved = second_same spells behind (lines_of second) more (end_of second) end
    (numbered_shapes 1 later (parts_of second)) clean in
    record {
      clean = at.clean;
      same = at.same;
      stands = ap (λ (ls : List Line). first_behind_first behind ls end) rest ∙ moved.clean;
      place = moved.place;
      spelled = ap (spelled_second spells) rest ∙ moved.same;
    }

-- the lines of both: the header, and those behind it
both_named : (kind : Kind) (version half : ℕ) (first second : List ℕ) (ended : IsEnded first)
    (h : HasHeader kind version half first) →
    lines_of (first ++ second) ≡ h.0.line ∷ both_lines first second ended
both_named kind version half first second ended h =
    (joined first second ended).1
    ∙ ap (λ (x : List Line). x ++ lines_from (joined first second ended).0 second) h.0.rest

-- the header of a first section is permitted
pub first_clean : (half : ℕ) (takes : Takes) (kind : Kind) (version step : ℕ) (text : List ℕ)
    (h : HasHeader kind version step text) (lines : List Line) (end : Place) →
    refused_kind takes kind ≡ None → Permits (first_form kind) version step →
    first_in_lines half takes (h.0.line ∷ lines) end
    ≡ first_in_kind half takes (Some kind) version lines end
first_clean half takes kind version step text h lines end taken permits =
    rw (
      header_clean (refused_kind takes) _ first_form kind version step text h taken permits,
      named kind version step text h,
      versioned kind version step text h,
    ) refl

pub both_first : (half : ℕ) (takes : Takes) (kind : Kind) (version step : ℕ) (first second : List ℕ)
    (ended : IsEnded first) → HasHeader kind version step first → refused_kind takes kind ≡ None →
    Permits (first_form kind) version step →
    first_in_text half takes (first ++ second)
    ≡ first_in_kind half takes (Some kind) version (both_lines first second ended)
    (end_of (first ++ second))
both_first half takes kind version step first second ended h taken permits =
    ap (λ (ls : List Line). first_in_lines half takes ls (end_of (first ++ second)))
    (both_named kind version step first second ended h)
    ∙ first_clean half takes kind version step first h _ _ taken permits

pub both_spelled : (half : ℕ) (kind : Kind) (version step : ℕ) (first second : List ℕ)
    (ended : IsEnded first) → HasHeader kind version step first →
    spelled half (first ++ second)
    ≡ spelled_in_kind half (Some kind) (both_lines first second ended)
both_spelled half kind version step first second ended h =
    ap (spelled_lines half) (both_named kind version step first second ended h)
    ∙ rw (named kind version step first h) refl

pub both_stepped : (kind : Kind) (version step : ℕ) (first second : List ℕ) (ended : IsEnded first) →
    HasHeader kind version step first → half_of (first ++ second) ≡ step
both_stepped kind version step first second ended h =
    ap (λ (ls : List Line). half_in (first_words ls))
    (both_named kind version step first second ended h)
    ∙ stepped kind version step first h

-- ---- a second section, which begins with its own header

pub second_stands : {A : Type 0} (second : Second) (kind : Kind) (version step : ℕ)
    (text : List ℕ) (value : Lines → A) (x : A) → HasHeader kind version step text →
    second.refused kind ≡ None → Permits (second.form kind) version step →
    IsReadAs (second.rules kind version) value text x →
    first_behind_first second (lines_of text) (end_of text) ≡ None
second_stands second kind version step text value x h free permits read =
    ap (λ (ls : List Line). first_behind_first second ls (end_of text)) h.0.rest
    ∙ rw (
      header_clean second.refused _ second.form kind version step text h free permits,
      named kind version step text h,
      versioned kind version step text h,
      read.clean,
      read.whole,
    ) refl

pub second_said : {A : Type 0} (spells : Kind → Place → Lines → A) (kind : Kind) (version step : ℕ)
    (text : List ℕ) (h : HasHeader kind version step text) →
    spelled_second spells (lines_of text)
    ≡ Some (spells kind (place_in h.0.line.items h.0.line.lack)
    (section_lines (drop 1 (lines_of text))))
second_said spells kind version step text h =
    ap (spelled_second spells) h.0.rest ∙ rw (named kind version step text h) refl
