use Rattle.mc_shift.proofs.ShiftedValid.{shifted_forms_valid}
use Rattle.mc_shift.proofs.laws.shifted_forms_are_valid.Goals as goal

pub returns : goal.returns
returns c = shifted_forms_valid
