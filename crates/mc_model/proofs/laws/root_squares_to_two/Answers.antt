use Rattle.mc_model.proofs.RootTwo.{root_squared}
use Rattle.mc_model.proofs.laws.root_squares_to_two.Goals as goal

pub returns : goal.returns
returns c = root_squared
