-- The canonical text of a document that is one section alone is read without a fault, as that
-- document, and says its step.
use Rattle.std.proofs.Common.{◌≡◌, ℕ, List, drop, Some, None, refl, ap, ◌∙◌}
use Rattle.mc_lex.specs.declared.kind.Kind.{Kind}
use Rattle.mc_lex.specs.Lines.{Line, lines_of, end_of}
use Rattle.mc_text.specs.Headers.{half_in}
use Rattle.mc_text.specs.Judged.{Lines, Place, Rules, section_lines}
use Rattle.mc_document.specs.declared.takes.Takes.{Takes}
use Rattle.mc_document.specs.Documents.{PlainDocument, first_form, refused_kind}
use Rattle.mc_document.specs.Sections.{first_alone, first_in_kind, first_in_lines, first_in_text}
use Rattle.mc_document.specs.Sections.{spelled, spelled_in_kind, spelled_lines}
use Rattle.mc_document.specs.Turns.{first_words, half_of}
use Rattle.mc_document.proofs.BothTexts.{IsReadAs, first_clean}
use Rattle.mc_document.proofs.Headers.{HasHeader, Permits, named, stepped}

-- the lines of this kind are one section, and what they spell is its value as a document
pub record IsAlone {A : Type 0} (half : ℕ) (kind : Kind) (rules : Rules) (value : Lines → A)
    (document : A → PlainDocument) : Type 0 where
  pub first : (takes : Takes) (version : ℕ) (lines : List Line) (end : Place) →
      first_in_kind half takes (Some kind) version lines end ≡ first_alone rules lines end
  pub spells : (lines : List Line) →
      spelled_in_kind half (Some kind) lines ≡ Some (document (value (section_lines lines)))

pub alone_clean : {A : Type 0} (half : ℕ) (kind : Kind) (rules : Rules) (value : Lines → A)
    (document : A → PlainDocument) → IsAlone half kind rules value document → (takes : Takes)
    (version step : ℕ) (text : List ℕ) (x : A) → HasHeader kind version step text →
    IsReadAs rules value text x → refused_kind takes kind ≡ None →
    Permits (first_form kind) version step → first_in_text half takes text ≡ None
alone_clean half kind rules value document alone takes version step text x h read free permits =
    ap (λ (ls : List Line). first_in_lines half takes ls (end_of text)) h.0.rest
    ∙ first_clean half takes kind version step text h _ _ free permits
    ∙ alone.first takes version (drop 1 (lines_of text)) (end_of text)
    ∙ rw (read.clean, read.whole) refl

pub alone_spelled : {A : Type 0} (half : ℕ) (kind : Kind) (rules : Rules) (value : Lines → A)
    (document : A → PlainDocument) → IsAlone half kind rules value document →
    (version step : ℕ) (text : List ℕ) (x : A) → HasHeader kind version step text →
    IsReadAs rules value text x → spelled half text ≡ Some (document x)
alone_spelled {A} half kind rules value document alone version step text x h read =
    ap (spelled_lines half) h.0.rest
    ∙ rw (named kind version step text h) (alone.spells (drop 1 (lines_of text)))
    ∙ ap (λ (y : A). Some (document y)) read.same

pub alone_stepped : (kind : Kind) (version step : ℕ) (text : List ℕ) →
    HasHeader kind version step text → half_of text ≡ step
alone_stepped kind version step text h =
    ap (λ (ls : List Line). half_in (first_words ls)) h.0.rest ∙ stepped kind version step text h
