use Rattle.mc_shift.proofs.NewOutcomes.{new_outcomes_bijection}
use Rattle.mc_shift.proofs.laws.new_outcomes_are_a_bijection.Goals as goal

pub returns : goal.returns
returns c = new_outcomes_bijection
