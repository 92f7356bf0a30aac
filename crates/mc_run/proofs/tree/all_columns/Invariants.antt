use Rattle.std.proofs.Common.{◌≡◌, false, replicate}
use Rattle.mc_run.specs.Branches.{AreAllColumns}
use Rattle.mc_run.proofs.tree.all_columns.Given as goal

abbrev pub invariant-settings : goal.invariant-settings
invariant-settings g l = record {
  clear : l.outcomes ≡ replicate l.count false;
  columns : AreAllColumns g.row.H l.pattern l.b l.entries.items;
}
