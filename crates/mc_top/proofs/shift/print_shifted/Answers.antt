use Rattle.std.proofs.Common.{◌≡◌, ◌∙◌, ◌++◌, List, IfOk, sym, subst, arith}
use Rattle.mc_model.specs.Pattern.{Pattern}
use Rattle.mc_model.specs.Valid.{IsValidPattern}
use Rattle.mc_model.specs.Shift.{ChangeRow}
use Rattle.mc_model.proofs.StepLemmas.{permitted_positive}
use Rattle.mc_pattern_text.specs.Canonical.{pattern_text}
use Rattle.mc_change_text.specs.Canonical.{change_text}
use Rattle.mc_shift.specs.Shifted.{shifted_form}
use Rattle.mc_top.specs.Shift.{shifted_text}
use Rattle.mc_top.proofs.ChangesFit.{change_fits}
use Rattle.mc_top.proofs.ShiftedForms.{on_ok, is_shifted_form, shifted_by}
use Rattle.mc_top.proofs.shift.print_shifted.Goals as goal

pub print_with_change-requires : goal.print_with_change-requires
print_with_change-requires g c =
    let valid = subst IsValidPattern c.standard.view_is c.standard.invariant.pattern.valid in (
      omega arith,
      rw (c.in_ok-pattern.ensures, c.in_ok-shifted.ensures.change)
          (change_fits c.in_ok-standard.standard c.in_ok-shifted.shifted valid
          c.in_ok-shifted.ensures.form),
    )

pub returns-clause-text : goal.returns-clause-text
returns-clause-text g c =
    let valid = subst IsValidPattern c.standard.view_is c.standard.invariant.pattern.valid in
    let standard = c.in_ok-standard.standard in
    let written = c.print_with_change.result in
    let form : c.in_ok-pattern.pattern ≡ shifted_form standard =
    c.in_ok-pattern.ensures
    ∙ sym (is_shifted_form c.has_one_shifted_form.ensures.made standard c.in_ok-shifted.shifted valid
    c.in_ok-shifted.ensures.only) in
    subst (λ (p : Pattern). IfOk written (λ text. text.items ≡ shifted_text g.row.H p))
    c.in_ok-standard.ensures.form
    (subst
    (λ (rows : List ChangeRow). IfOk written (λ text.
    text.items
    ≡ pattern_text g.row.H (shifted_form standard) ++ change_text (shifted_form standard) rows))
    c.in_ok-shifted.ensures.change
    (subst
    (λ (q : Pattern). IfOk written (λ text.
    text.items ≡ pattern_text g.row.H q ++ change_text q c.in_ok-shifted.change))
    form c.print_with_change.ensures.text))

pub returns-clause-meaning : goal.returns-clause-meaning
returns-clause-meaning g c =
    let valid = subst IsValidPattern c.standard.view_is c.standard.invariant.pattern.valid in
    let positive = permitted_positive g.row.H c.requires in
    on_ok c.print_with_change.result _
    (shifted_by c.has_one_shifted_form.ensures.made g.row.H c.args.source.now
    c.in_ok-standard.standard c.in_ok-shifted.shifted valid c.in_ok-standard.ensures.form
    c.in_ok-shifted.ensures.only
    (c.in_ok-standard.ensures.alike g.row.H positive)
    (c.in_ok-shifted.ensures.maps g.row.H positive))
