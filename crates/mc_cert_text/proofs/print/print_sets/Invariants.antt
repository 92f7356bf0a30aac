use Rattle.std.proofs.Common.{◌≡◌, ◌++◌, All, map, take}
use Rattle.mc_model.specs.Signals.{IsRising}
use Rattle.mc_write.specs.Text.{text_of}
use Rattle.mc_rows.specs.Written.{row_line}
use Rattle.mc_cert_text.specs.Tables.{least_shape}
use Rattle.mc_cert_text.specs.Canonical.{bound_row}
use Rattle.mc_cert_text.proofs.print.print_sets.Given as goal

abbrev pub invariant-rows : goal.invariant-rows
invariant-rows l = record {
  text : l.text.items ≡ l.initial.text.items
      ++ text_of (map (λ r. row_line least_shape l.names (bound_row r)) (take l.i l.b.rows));
  rising : All (λ r. IsRising r.set) (take l.i l.b.rows);
}
