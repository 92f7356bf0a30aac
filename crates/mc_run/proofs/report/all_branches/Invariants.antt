use Rattle.std.proofs.Common.{◌≡◌, ℕ, ◌*◌, ◌^◌, ◌<◌, length, slice_index_or}
use Rattle.mc_model.specs.Ring.{ring}
use Rattle.mc_model.specs.Amplitude.{branch_map, pattern_scale}
use Rattle.mc_run.specs.Tables.{TableValue, IsTableOf}
use Rattle.mc_run.specs.Reports.{outcomes_of}
use Rattle.mc_run.proofs.report.all_branches.Given as goal

abbrev pub invariant-branches : goal.invariant-branches
invariant-branches g l = record {
  long : length l.tables.items ≡ l.i;
  tables : (j : ℕ) (d : TableValue) → j < length l.tables.items →
      (length (slice_index_or l.tables.items j d).entries
      ≡ 2 ^ l.pattern.inputs * 2 ^ length l.pattern.outputs)
      × IsTableOf (length l.pattern.outputs) l.pattern.inputs (pattern_scale l.pattern)
      (branch_map (ring g.row.H) l.pattern (outcomes_of l.pattern j))
      (slice_index_or l.tables.items j d);
}
