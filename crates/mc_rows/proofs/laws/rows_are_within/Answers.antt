use Rattle.mc_rows.proofs.Within.{rows_within}
use Rattle.mc_rows.proofs.laws.rows_are_within.Goals as goal

pub returns : goal.returns
returns c = rows_within
