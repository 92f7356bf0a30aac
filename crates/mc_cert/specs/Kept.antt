-- Rows of a bound as they are kept.
use Rattle.std.specs.Prelude.{ℕ, List}
use Rattle.mc_cert.specs.declared.rows.Target.{Target}
use Rattle.mc_cert.specs.BoundRecords.{LayerRow, BoundRow}

abbrev pub layer_row : ℕ × ℕ → LayerRow
layer_row e = record { vertex = e.0; layer = e.1 }

abbrev pub set_row : Target × List ℕ → BoundRow
set_row e = record { k = e.0.k; vertex = e.0.vertex; set = e.1 }
