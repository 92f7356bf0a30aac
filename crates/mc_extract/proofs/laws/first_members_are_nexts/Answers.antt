use Rattle.mc_extract.proofs.CausalRows.{causal_rows}
use Rattle.mc_extract.proofs.laws.first_members_are_nexts.Goals as goal

pub returns : goal.returns
returns c = causal_rows
