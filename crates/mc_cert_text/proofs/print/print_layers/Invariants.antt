use Rattle.std.proofs.Common.{◌≡◌, ◌++◌, map, take}
use Rattle.mc_write.specs.Text.{text_of}
use Rattle.mc_rows.specs.Written.{row_line}
use Rattle.mc_cert_text.specs.Tables.{least_shape}
use Rattle.mc_cert_text.specs.Canonical.{layer_row}
use Rattle.mc_cert_text.proofs.print.print_layers.Given as goal

abbrev pub invariant-rows : goal.invariant-rows
invariant-rows l = l.text.items ≡ l.initial.text.items
    ++ text_of (map (λ r. row_line least_shape l.names (layer_row r)) (take l.i l.b.layers))
