use Rattle.std.proofs.Common.{◌≡◌, ℕ, ◌++◌, ◌<◌}
use Rattle.std.specs.List.{flat_map}
use Rattle.mc_model.specs.Numbers.{numbers_from}
use Rattle.mc_run.specs.Tables.{IsTable}
use Rattle.mc_write.specs.Text.{text_of}
use Rattle.mc_run_text.specs.Canonical.{table_at, branch_lines}
use Rattle.mc_run_text.proofs.report.print_branches.Given as goal

abbrev pub invariant-branches : goal.invariant-branches
invariant-branches g l = record {
  lines : l.text.items
      ≡ l.fn.text.items
      ++ text_of (flat_map (branch_lines g.row.H l.measured l.report) (numbers_from 0 l.i));
  long : (j : ℕ) → j < l.i → IsTable (table_at l.report j);
}
