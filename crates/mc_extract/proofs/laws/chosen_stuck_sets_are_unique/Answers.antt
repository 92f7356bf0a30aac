use Rattle.mc_extract.proofs.Unique.{same_stuck_sets}
use Rattle.mc_extract.proofs.laws.chosen_stuck_sets_are_unique.Goals as goal

pub returns : goal.returns
returns c = same_stuck_sets
