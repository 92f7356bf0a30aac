use Rattle.mc_chosen.proofs.BoundLists.{has_bound}
use Rattle.mc_chosen.proofs.laws.chosen_flows_have_bounds.Goals as goal

pub returns : goal.returns
returns c =
    λ g f chosen.
    has_bound g f (c.chosen_flows_are_earliest.ensures g f chosen) c.chosen_bounds_exist.ensures
