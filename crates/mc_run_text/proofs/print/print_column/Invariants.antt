use Rattle.std.proofs.Common.{◌≡◌, ◌++◌, map}
use Rattle.mc_model.specs.Numbers.{numbers_from}
use Rattle.mc_write.specs.Text.{text_of}
use Rattle.mc_run_text.specs.Canonical.{amplitude_line}
use Rattle.mc_run_text.proofs.print.print_column.Given as goal

abbrev pub invariant-outputs : goal.invariant-outputs
invariant-outputs g l =
    l.text.items
    ≡ l.fn.text.items
    ++ text_of (map (λ y. amplitude_line g.row.H l.table y l.b) (numbers_from 0 l.y))
