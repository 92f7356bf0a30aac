use Rattle.mc_make.proofs.ChosenFlows.{chosen_has_no_second}
use Rattle.mc_make.proofs.laws.chosen_patterns_have_no_second_signals.Goals as goal

pub returns : goal.returns
returns c = chosen_has_no_second
