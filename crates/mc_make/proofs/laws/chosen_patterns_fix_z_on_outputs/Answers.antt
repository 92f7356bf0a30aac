use Rattle.mc_make.proofs.ChosenFlows.{z_only_on_outputs}
use Rattle.mc_make.proofs.laws.chosen_patterns_fix_z_on_outputs.Goals as goal

pub returns : goal.returns
returns c = z_only_on_outputs
