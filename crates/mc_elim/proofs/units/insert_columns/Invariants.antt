use Rattle.std.proofs.Common.{◌≡◌, ℕ, ◌<◌}
use Rattle.mc_elim.specs.Basis.{count_of, columns_of}
use Rattle.mc_elim.specs.Units.{columns_in}
use Rattle.mc_elim.proofs.units.insert_columns.Given as goal

abbrev pub invariant-columns : goal.invariant-columns
invariant-columns g l = record {
  rows : l.basis.rows ≡ l.fn.a.rows;
  room : l.basis.room ≡ l.fn.a.columns;
  count : count_of l.basis ≡ l.j;
  columns : (i r : ℕ) → i < l.j → r < l.fn.a.rows →
      columns_of l.basis i r ≡ columns_in l.fn.a i r;
}
