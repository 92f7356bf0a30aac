use Rattle.std.proofs.Common.{◌≡◌, ℕ, ◌<◌, length, slice_index_or}
use Rattle.std.specs.Prelude.{Option}
use Rattle.mc_cyclo.specs.Phase.{IsLeastPhase}
use Rattle.mc_run.specs.Tables.{TableValue}
use Rattle.mc_run.proofs.report.phases_of.Given as goal

abbrev pub invariant-tables : goal.invariant-tables
invariant-tables g l = record {
  long : length l.phases.items ≡ l.i;
  phases : (j : ℕ) (e : Option ℕ) → j < length l.phases.items → (d : TableValue) →
      IsLeastPhase g.row.H (slice_index_or l.tables j d).entries
      (slice_index_or l.tables 0 d).entries (slice_index_or l.phases.items j e);
}
