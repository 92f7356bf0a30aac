use Rattle.std.specs.Prelude.{◌≡◌, take}
use Rattle.mc_least.proofs.columns.insert_all.Given as goal

abbrev pub invariant-columns : goal.invariant-columns
invariant-columns g l = record {
  rows : l.basis.rows ≡ l.n;
  room : l.basis.room ≡ l.n;
  columns : l.basis.columns ≡ take l.w l.fn.columns;
}
