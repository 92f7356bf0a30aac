-- What stands behind a first section says the same at other places.
use Rattle.std.proofs.Common.{◌≡◌, ℕ, List, [], ◌∷◌, Bool, true, false, Option, Some, None, refl}
use Rattle.std.proofs.Common.{ap}
use Rattle.std.proofs.Common.{if◌then◌else◌}
use Rattle.std.specs.Option.{option_map}
use Rattle.mc_lex.specs.declared.kind.Kind.{Kind}
use Rattle.mc_lex.specs.Lines.{Line}
use Rattle.mc_text.specs.declared.fault.Fault.TheVariants.{BehindEnd}
use Rattle.mc_text.specs.Judged.{Lines, Place, words_of, section_lines}
use Rattle.mc_text.specs.Headers.{header_rules, kind_in, version_in}
use Rattle.mc_document.specs.Places.{place_in}
use Rattle.mc_document.specs.Second.{Second, first_behind, first_behind_first, first_in_second}
use Rattle.mc_document.specs.Second.{nothing_more, spelled_second}
use Rattle.mc_document.proofs.Joined.{first_of_both, line_same, line_shapes, section_same, shapes}
use Rattle.mc_document.proofs.Joined.{words_same}

nothing_same : (lines lines' : List Line) → line_shapes lines ≡ line_shapes lines' →
    first_behind lines ≡ None → first_behind lines' ≡ None
nothing_same [] [] e clean = refl
nothing_same [] (line' ∷ lines') e clean = absurd (cc e)
nothing_same (line ∷ lines) [] e clean = refl
nothing_same (line ∷ lines) (line' ∷ lines') e clean =
    let first : shapes line.items ≡ shapes line'.items = cc e in
    line_same nothing_more [] [] line.items line'.items line.lack line'.lack first clean

-- what stands at `lines'` has no fault either, and spells what `lines` do, at its own place
pub record IsSameSecond {A : Type 0} (spells : Kind → Place → Lines → A) (second : Second)
    (lines lines' : List Line) (end' : Place) : Type 0 where
  pub clean : first_behind_first second lines' end' ≡ None
  pub place : Place
  pub same : spelled_second spells lines'
      ≡ spelled_second (λ kind here. spells kind place) lines

record IsSameKind {A : Type 0} (spells : Kind → Place → Lines → A) (second : Second)
    (kind : Option Kind) (version : ℕ) (place : Place) (lines lines' : List Line) (end' : Place)
    : Type 0 where
  clean : first_in_second second kind version lines' end' ≡ None
  same : option_map (λ k. spells k place (section_lines lines')) kind
      ≡ option_map (λ k. spells k place (section_lines lines)) kind

kind_same : {A : Type 0} (spells : Kind → Place → Lines → A) (second : Second)
    (kind : Option Kind) (version : ℕ) (place : Place) (lines lines' : List Line)
    (end end' : Place) → line_shapes lines ≡ line_shapes lines' →
    first_in_second second kind version lines end ≡ None →
    IsSameKind spells second kind version place lines lines' end'
kind_same spells second None version place lines lines' end end' e clean =
    record { clean = refl; same = refl }
kind_same spells second (Some kind) version place lines lines' end end' e clean =
    let both = first_of_both _ _ clean in
    let at = section_same (second.rules kind version) [] lines lines' end end' e both.0 in
    record {
      clean = rw at.clean (nothing_same _ _ at.behind both.1);
      same = ap (λ (ls : Lines). Some (spells kind place ls)) at.same;
    }

none_due : {A : Type 0} (due : Bool) (x y : A) → (if due then Some x else None) ≡ None →
    (if due then Some y else None) ≡ None
none_due true x y clean = absurd (cc clean)
none_due false x y clean = refl

pub second_same : {A : Type 0} (spells : Kind → Place → Lines → A) (second : Second)
    (lines lines' : List Line) (end end' : Place) → line_shapes lines ≡ line_shapes lines' →
    first_behind_first second lines end ≡ None → IsSameSecond spells second lines lines' end'
second_same spells second [] [] end end' e clean =
    record { clean = none_due second.due _ _ clean; place = end; same = refl }
second_same spells second [] (line' ∷ lines') end end' e clean = absurd (cc e)
second_same spells second (line ∷ lines) [] end end' e clean = absurd (cc e)
second_same spells second (line ∷ lines) (line' ∷ lines') end end' e clean =
    let first : shapes line.items ≡ shapes line'.items = cc e in
    let rest : line_shapes lines ≡ line_shapes lines' = cc e in
    let both = first_of_both _ _ clean in
    let header = line_same (header_rules second.refused BehindEnd second.form) [] [] line.items
    line'.items line.lack line'.lack first both.0 in
    let words = words_same line.items line'.items first in
    let place = place_in line'.items line'.lack in
    let at = kind_same spells second (kind_in (words_of line.items))
    (version_in (words_of line.items)) place lines lines' end end' rest both.1 in
    record {
      clean = rw (header, ← words) at.clean;
      place = place;
      same = rw (← words) at.same;
    }
