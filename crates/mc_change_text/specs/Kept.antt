-- What is kept of the rows of a change while they are read.
use Rattle.std.specs.Prelude.{◌≡◌, ℕ, List, map}
use Rattle.mc_model.specs.Numbers.{is_member}
use Rattle.mc_model.specs.Shift.{ChangeRow, AreEarlier, qubits_of}
use Rattle.mc_rows.specs.declared.row.Row.{Row}
use Rattle.mc_change_text.specs.Changes.{AreSets}
use Rattle.mc_change_text.specs.Kinds.{change_row, names_of}

-- the change of the rows, and the qubits of the rows; each member of a row's signal is the qubit of
-- a row before
pub record IsChangeSoFar (change : List ChangeRow) (done : List ℕ) (rows : List Row)
    : Type 0 where
  pub change_is : change ≡ map change_row rows
  pub done_is : (q : ℕ) → is_member done q ≡ is_member (names_of rows) q
  pub earlier : AreEarlier (qubits_of change) change
  pub sets : AreSets change
