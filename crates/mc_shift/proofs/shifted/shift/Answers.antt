use Rattle.std.proofs.Common.{map, arith, ◌∙◌}
use Rattle.mc_model.specs.Ring.{ring}
use Rattle.mc_model.proofs.RingLemmas.{ring_laws}
use Rattle.mc_standard.specs.Plain.{plain_measure, plain_fix}
use Rattle.mc_shift.proofs.Halfway.{change_of_part}
use Rattle.mc_shift.proofs.ShiftedForm.{form_unique}
use Rattle.mc_shift.proofs.ShiftedValid.{shifted_forms_valid}
use Rattle.mc_shift.proofs.Shifting.{shift_keeps}
use Rattle.mc_shift.proofs.ShiftedStandard.{shifted_parts, shifted_standard}
use Rattle.mc_shift.proofs.shifted.shift.Goals as goal

pub with_signals-requires : goal.with_signals-requires
with_signals-requires g c =
    let h = c.names-names.ensures in
    let p = c.args.p.now in
    let ms = map (plain_measure {h = g.row.H}) c.in_ok-measures.measures.items in
    let fs = map plain_fix c.in_ok-fixes.fixes.items in (
      omega arith,
      (
        omega arith,
        shifted_standard c.settled_is_standard.ensures g.row.H p _ h.standard
            (shifted_parts p ms fs h.parts c.in_ok-measures.ensures.measures
            c.in_ok-fixes.ensures),
      ),
    )

pub returns-clause-form : goal.returns-clause-form
returns-clause-form g c =
    let h = c.names-names.ensures in
    let p = c.args.p.now in
    let ms = map (plain_measure {h = g.row.H}) c.in_ok-measures.measures.items in
    let fs = map plain_fix c.in_ok-fixes.fixes.items in
    rw c.in_ok-shifted.ensures
    (shifted_parts p ms fs h.parts c.in_ok-measures.ensures.measures c.in_ok-fixes.ensures)

pub returns-clause-only : goal.returns-clause-only
returns-clause-only g c =
    let valid = c.names-names.ensures.standard.pattern.valid in
    λ q form. form_unique c.args.p.now q _ valid form (returns-clause-form g c)

pub returns-clause-valid : goal.returns-clause-valid
returns-clause-valid g c =
    let valid = c.names-names.ensures.standard.pattern.valid in
    shifted_forms_valid c.args.p.now _ valid (returns-clause-form g c)

pub returns-clause-shifted : goal.returns-clause-shifted
returns-clause-shifted g c =
    let h = c.names-names.ensures in
    let form = returns-clause-form g c in
    record {
      standard =
          (shifted_standard c.settled_is_standard.ensures g.row.H c.args.p.now _ h.standard form).own;
      shifted = (returns-clause-valid g c).no_second;
    }

pub returns-clause-change : goal.returns-clause-change
returns-clause-change g c =
    c.in_ok-measures.ensures.change ∙ change_of_part c.args.p.now.commands

pub returns-clause-maps : goal.returns-clause-maps
returns-clause-maps g c =
    let valid = c.names-names.ensures.standard.pattern.valid in
    λ half positive.
    shift_keeps (ring half) (ring_laws half positive) c.args.p.now _ valid
    (returns-clause-form g c)
