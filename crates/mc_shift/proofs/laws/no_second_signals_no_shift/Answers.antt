use Rattle.mc_shift.proofs.ShiftedForm.{one_shifted_form}
use Rattle.mc_shift.proofs.Unshifted.{unshifted}
use Rattle.mc_shift.proofs.laws.no_second_signals_no_shift.Goals as goal

pub returns : goal.returns
returns c = unshifted one_shifted_form
