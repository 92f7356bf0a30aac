use Rattle.mc_signal.proofs.Rising.{toggled-searched}
use Rattle.mc_signal.proofs.set.place_of.Goals as goal

pub returns : goal.returns
returns c =
    toggled-searched c.args.q c.args.members.now c.binary_search.result c.requires
    c.binary_search.ensures.position
