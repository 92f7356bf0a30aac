use Rattle.std.proofs.Common.{◌^◌, length}
use Rattle.mc_model.specs.Bits.{bits_of}
use Rattle.mc_model.specs.Ring.{ring}
use Rattle.mc_model.specs.Amplitude.{branch_map}
use Rattle.mc_run.specs.Reports.{outcomes_of}
use Rattle.mc_run.specs.Settings.{spelled}
use Rattle.mc_run.proofs.FilledColumns.{Filled}
use Rattle.mc_run.proofs.tree.table_of.Given as goal

abbrev pub invariant-columns : goal.invariant-columns
invariant-columns g l =
    Filled
    (λ y b. (branch_map (ring g.row.H) l.pattern (outcomes_of l.pattern l.i)
    (spelled (length l.pattern.outputs) y) (bits_of (spelled l.pattern.inputs b))).coefficients)
    (2 ^ length l.pattern.outputs) l.b l.entries.items
