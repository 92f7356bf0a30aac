-- The rows of a change as those of the definitions.
use Rattle.mc_model.specs.Shift.{ChangeRow}
use Rattle.mc_pattern.specs.declared.change.Row.{Row}

abbrev pub plain_row : Row → ChangeRow
plain_row row = record { qubit = row.q; signal = row.s }
