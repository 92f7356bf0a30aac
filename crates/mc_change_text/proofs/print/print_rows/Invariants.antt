use Rattle.std.proofs.Common.{◌≡◌, ◌++◌, map, take}
use Rattle.mc_write.specs.Text.{text_of}
use Rattle.mc_rows.specs.Written.{row_line}
use Rattle.mc_change_text.specs.Changes.{AreSets}
use Rattle.mc_change_text.specs.Kinds.{change_shape}
use Rattle.mc_change_text.specs.Canonical.{written_row}
use Rattle.mc_change_text.proofs.print.print_rows.Given as goal

abbrev pub invariant-rows : goal.invariant-rows
invariant-rows l = record {
  text : l.text.items ≡ l.initial.text.items
      ++ text_of (map (λ row. row_line change_shape l.names (written_row row)) (take l.i l.change));
  sets : AreSets (take l.i l.change);
}
