use Rattle.std.proofs.Common.{◌^◌, length}
use Rattle.mc_model.specs.Bits.{bits_of}
use Rattle.mc_model.specs.Ring.{ring}
use Rattle.mc_model.specs.Amplitude.{circuit_table}
use Rattle.mc_run.specs.Settings.{spelled}
use Rattle.mc_run.proofs.FilledColumns.{Filled}
use Rattle.mc_run.proofs.circuit.circuit_table.Given as goal

abbrev pub invariant-columns : goal.invariant-columns
invariant-columns g l =
    Filled
    (λ y b. (circuit_table (ring g.row.H) l.circuit (spelled (length l.circuit.outputs) y)
    (bits_of (spelled l.circuit.inputs b))).coefficients)
    (2 ^ length l.circuit.outputs) l.b l.entries.items
