use Rattle.std.proofs.Common.{◌≡◌, ◌++◌, ◌^◌, map}
use Rattle.std.specs.List.{flat_map}
use Rattle.mc_model.specs.Numbers.{numbers_from}
use Rattle.mc_write.specs.Text.{text_of}
use Rattle.mc_run_text.specs.Canonical.{amplitude_line}
use Rattle.mc_run_text.proofs.print.print_amplitudes.Given as goal

abbrev pub invariant-inputs : goal.invariant-inputs
invariant-inputs g l =
    l.text.items
    ≡ l.fn.text.items
    ++ text_of (flat_map (λ b. map (λ y. amplitude_line g.row.H l.table y b)
    (numbers_from 0 (2 ^ l.table.outputs))) (numbers_from 0 l.b))
