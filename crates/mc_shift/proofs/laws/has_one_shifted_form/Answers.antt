use Rattle.mc_shift.proofs.ShiftedForm.{one_shifted_form, form_exists}
use Rattle.mc_shift.proofs.laws.has_one_shifted_form.Goals as goal

pub returns-clause-one : goal.returns-clause-one
returns-clause-one c = one_shifted_form

pub returns-clause-made : goal.returns-clause-made
returns-clause-made c = form_exists
