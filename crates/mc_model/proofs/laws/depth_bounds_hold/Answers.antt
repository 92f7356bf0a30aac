use Rattle.mc_model.proofs.DepthBounds.{bounds_hold}
use Rattle.mc_model.proofs.laws.depth_bounds_hold.Goals as goal

pub returns : goal.returns
returns c = bounds_hold
