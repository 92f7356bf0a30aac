-- What a change's section without a fault spells is a change of the pattern's outcomes.
use Rattle.std.proofs.Common.{◌≡◌, ℕ, List, [], ◌∷◌, ◌++◌, Bool, true, false, not, None, map, refl}
use Rattle.std.proofs.Common.{◌∙◌, arith, length, ◌||◌, nat_eq, ◌==◌}
use Rattle.std.proofs.lemmas.List.{map-append}
use Rattle.std.proofs.lemmas.List.Elements.{All-nil}
use Rattle.std.proofs.lemmas.List.Folds.{list_any-append}
use Rattle.mc_lex.specs.Lines.{Line}
use Rattle.mc_model.specs.Numbers.{is_member}
use Rattle.mc_model.specs.Pattern.{Pattern, measured_order}
use Rattle.mc_model.specs.Shift.{ChangeRow, IsChangeOf}
use Rattle.mc_model.specs.Signals.{IsRising}
use Rattle.mc_text.specs.declared.fault.Fault.TheVariants.{NotMeasured}
use Rattle.mc_text.specs.Judged.{Words, Place, first_in_section, section_lines}
use Rattle.mc_text.specs.Rules.{broken, number_in}
use Rattle.mc_rows.specs.declared.row.Row.{Row}
use Rattle.mc_rows.specs.Rows.{members_in, named, row_in, rows_in}
use Rattle.mc_rows.specs.Kept.{Passes}
use Rattle.mc_rows.proofs.RisingSets.{rising_where}
use Rattle.mc_change_text.specs.Changes.{AreSets}
use Rattle.mc_change_text.specs.Kept.{IsChangeSoFar}
use Rattle.mc_change_text.specs.Kinds.{change_kind, change_row, change_rules, change_shape}
use Rattle.mc_change_text.specs.Kinds.{names_of, rows_of}
use Rattle.mc_change_text.proofs.Fits.{change_fits}
use Rattle.mc_change_text.proofs.Keeping.{kept_more}
use Rattle.mc_document.proofs.RowLines.{rows_hold}

-- the rows so far are a change so far
abbrev IsSoFar : List Row → Type 0
IsSoFar rows = IsChangeSoFar (map change_row rows) (names_of rows) rows

was_measured : (t : Bool) → broken ((not t, NotMeasured) ∷ []) ≡ None → t ≡ true
was_measured true e = refl
was_measured false e = absurd (cc e)

or_none : (a b : Bool) → (a || (b || false)) ≡ (a || b)
or_none a b = grind arith

one_more : (second : Bool) (order : List ℕ) (p : Pattern) (rows : List Row) (words : Words)
    → IsSoFar rows
    → Passes (change_kind second order) rows (row_in change_shape p.names words)
    → IsSoFar (rows ++ row_in change_shape p.names words ∷ [])
one_more second order p rows words h passes =
    let row = row_in change_shape p.names words in
    kept_more (map change_row rows) (map change_row (rows ++ row ∷ [])) (names_of rows)
    (names_of (rows ++ row ∷ [])) rows row (map-append change_row rows (row ∷ []))
    (λ q.
    rw (map-append (λ (r : Row). r.name) rows (row ∷ []))
    (list_any-append (nat_eq q) (names_of rows) (row.name ∷ [])
    ∙ or_none (is_member (names_of rows) q) (nat_eq q row.name)))
    (rising_where (is_member (map (number_in p.names) (named (members_in change_shape words))))
    (length p.names))
    (λ q is. was_measured (is_member (names_of rows) q) (passes.listed q is))
    h

none_so_far : IsSoFar []
none_so_far = record {
  change_is = refl;
  done_is = λ q. refl;
  earlier = λ i row e. absurd (cc e);
  sets = All-nil (λ (row : ChangeRow). IsRising row.signal.members);
}

pub clean_is_change : (version : ℕ) (p : Pattern) (lines : List Line) (end : Place)
    → first_in_section (change_rules version p) [] lines end ≡ None
    → IsChangeOf p (rows_of p.names (section_lines lines))
    × AreSets (rows_of p.names (section_lines lines))
clean_is_change version p lines end clean =
    let second = version == 2 in
    let order = measured_order p.commands in
    let rows = rows_in change_shape p.names (section_lines lines) in
    let h = rows_hold (change_kind second order) p.names IsSoFar
    (λ rows words held passes. one_more second order p rows words held passes) lines end none_so_far
    clean in (
      change_fits p.names second order p (map change_row rows) (names_of rows) lines end clean h
          refl,
      h.sets,
    )
