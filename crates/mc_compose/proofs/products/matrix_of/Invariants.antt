use Rattle.mc_run.specs.Tables.{entry_at}
use Rattle.mc_compose.proofs.FilledMatrices.{IsFilled}
use Rattle.mc_compose.proofs.products.matrix_of.Given as goal

abbrev pub invariant-entries : goal.invariant-entries
invariant-entries g l = IsFilled l.rows l.columns (entry_at l.table) l.matrix l.i
