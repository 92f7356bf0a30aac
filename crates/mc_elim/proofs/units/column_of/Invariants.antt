use Rattle.std.proofs.Common.{◌≡◌, ℕ, length}
use Rattle.mc_bits.specs.Rows.{bit_of}
use Rattle.mc_elim.specs.Units.{columns_in}
use Rattle.mc_elim.proofs.RowsWritten.{first_bits}
use Rattle.mc_elim.proofs.units.column_of.Given as goal

abbrev pub invariant-rows : goal.invariant-rows
invariant-rows l = record {
  bits : (r : ℕ) → bit_of l.column r ≡ first_bits l.r (columns_in l.fn.a l.fn.j) r;
  length : length l.column ≡ l.fn.rows;
}
