-- What holds of what each kind of section without a fault spells holds of what a text without a
-- fault does; the same of what stands behind a first section.
use Rattle.std.specs.Prelude.{IsSomeAnd, IsTrue, is_some, unwrap_or}
use Rattle.std.proofs.Common.{◌≡◌, ℕ, List, [], ◌∷◌, Bool, true, false, Option, Some, None, refl}
use Rattle.std.proofs.Common.{if◌then◌else◌}
use Rattle.std.specs.Option.{option_map}
use Rattle.mc_lex.specs.declared.kind.Kind.{Kind}
use Rattle.mc_lex.specs.Kinds.{kind_of}
use Rattle.mc_lex.specs.Lines.{Item, word, bad, Line, lines_of, end_of}
use Rattle.mc_text.specs.declared.fault.Fault.TheVariants.{NoKind, BehindEnd}
use Rattle.mc_text.specs.Judged.{Lines, Place, placed, words_of, section_lines}
use Rattle.mc_text.specs.Headers.{kind_judge, first_in_header, kind_in}
use Rattle.mc_document.specs.declared.takes.Takes.{Takes}
use Rattle.mc_document.specs.Documents.{PlainDocument, first_form, refused_kind, unless_taken}
use Rattle.mc_document.specs.Places.{place_in}
use Rattle.mc_document.specs.Second.{Second, first_behind_first, first_in_second, spelled_second}
use Rattle.mc_document.specs.Sections.{first_in_kind, first_in_lines, first_in_text, spelled}
use Rattle.mc_document.specs.Sections.{spelled_in_kind, spelled_lines}
use Rattle.mc_document.proofs.Joined.{first_of_both}
use Rattle.mc_document.proofs.Opening.{unrefused}

-- ---- a whole text

module _ (half : ℕ) (takes : Takes) (Holds : PlainDocument → Type 0)
    (each : (kind : Kind) (version : ℕ) (lines : List Line) (end : Place) →
    refused_kind takes kind ≡ None →
    first_in_kind half takes (Some kind) version lines end ≡ None →
    IsSomeAnd (spelled_in_kind half (Some kind) lines) Holds) where
  by_judge : (kind : Option Kind) (place : Place) (version : ℕ) (lines : List Line) (end : Place) →
      placed place (kind_judge (refused_kind takes) NoKind kind) ≡ None →
      first_in_kind half takes kind version lines end ≡ None →
      IsSomeAnd (spelled_in_kind half kind lines) Holds
  by_judge None place version lines end free clean = absurd (cc free)
  by_judge (Some kind) place version lines end free clean =
      each kind version lines end (unrefused place (refused_kind takes kind) free) clean

  by_header : (items : List Item) (lack : Place) (version : ℕ) (lines : List Line) (end : Place) →
      first_in_header (refused_kind takes) NoKind first_form items lack ≡ None →
      first_in_kind half takes (kind_in (words_of items)) version lines end ≡ None →
      IsSomeAnd (spelled_in_kind half (kind_in (words_of items)) lines) Holds
  by_header [] lack version lines end free clean = absurd (cc free)
  by_header (word bytes line column ∷ items) lack version lines end free clean =
      by_judge (kind_of bytes) (line, column) version lines end (first_of_both _ _ free).0 clean
  by_header (bad line column ∷ items) lack version lines end free clean = absurd (cc free)

  by_lines : (lines : List Line) (end : Place) → first_in_lines half takes lines end ≡ None →
      IsSomeAnd (spelled_lines half lines) Holds
  by_lines [] end clean = absurd (cc clean)
  by_lines (line ∷ lines) end clean =
      let both = first_of_both _ _ clean in
      by_header line.items line.lack _ lines end both.0 both.1

  pub text_spells : (text : List ℕ) → first_in_text half takes text ≡ None →
      IsSomeAnd (spelled half text) Holds
  text_spells text clean = by_lines (lines_of text) (end_of text) clean

-- the kind of a header that nothing is against is taken
pub taken : (t : Bool) → unless_taken t ≡ None → t ≡ true
taken true free = refl
taken false free = absurd (cc free)

-- ---- what stands behind a first section

module _ {A : Type 0} (second : Second) (spells : Kind → Place → Lines → A) (Holds : A → Type 0)
    (each : (kind : Kind) (version : ℕ) (place : Place) (lines : List Line) (end : Place) →
    second.refused kind ≡ None →
    first_in_second second (Some kind) version lines end ≡ None →
    Holds (spells kind place (section_lines lines))) where
  by_second : (at place : Place) (kind : Option Kind) (version : ℕ) (lines : List Line)
      (end : Place) → placed at (kind_judge second.refused BehindEnd kind) ≡ None →
      first_in_second second kind version lines end ≡ None →
      IsSomeAnd (option_map (λ k. spells k place (section_lines lines)) kind) Holds
  by_second at place None version lines end free clean = absurd (cc free)
  by_second at place (Some kind) version lines end free clean =
      each kind version place lines end (unrefused at (second.refused kind) free) clean

  by_items : (items : List Item) (lack : Place) (version : ℕ) (lines : List Line) (end : Place) →
      first_in_header second.refused BehindEnd second.form items lack ≡ None →
      first_in_second second (kind_in (words_of items)) version lines end ≡ None →
      IsSomeAnd (option_map (λ k. spells k (place_in items lack) (section_lines lines))
      (kind_in (words_of items))) Holds
  by_items [] lack version lines end free clean = absurd (cc free)
  by_items (word bytes line column ∷ items) lack version lines end free clean =
      by_second (line, column) (line, column) (kind_of bytes) version lines end
      (first_of_both _ _ free).0 clean
  by_items (bad line column ∷ items) lack version lines end free clean = absurd (cc free)

  pub second_spells : (line : Line) (lines : List Line) (end : Place) →
      first_behind_first second (line ∷ lines) end ≡ None →
      IsSomeAnd (spelled_second spells (line ∷ lines)) Holds
  second_spells line lines end clean =
      let both = first_of_both _ _ clean in
      by_items line.items line.lack _ lines end both.0 both.1

-- nothing is due where nothing stands
pub none_due : {A : Type 0} (x : A) (due : Bool) → (if due then Some x else None) ≡ None →
    due ≡ false
none_due x true clean = absurd (cc clean)
none_due x false clean = refl

pub some_is : {A : Type 0} (Holds : A → Type 0) (found : Option A) → IsSomeAnd found Holds →
    IsTrue (is_some found)
some_is Holds None h = absurd h
some_is Holds (Some x) h = refl

pub some_holds : {A : Type 0} (Holds : A → Type 0) (found : Option A) (none : A) →
    IsSomeAnd found Holds → Holds (unwrap_or found none)
some_holds Holds None none h = absurd h
some_holds Holds (Some x) none h = h
