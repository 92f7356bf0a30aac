use Rattle.mc_extract.proofs.Rounds.{rounds_find}
use Rattle.mc_extract.proofs.laws.rounds_find_causal_flow.Goals as goal

pub returns : goal.returns
returns c = rounds_find
