use Rattle.std.proofs.Common.{◌≡◌, ◌-◌, ℕ, length}
use Rattle.mc_model.specs.Numbers.{is_member}
use Rattle.mc_bits.specs.Rows.{bit_of}
use Rattle.mc_elim.proofs.RowsWritten.{first_bits}
use Rattle.mc_elim.proofs.units.members_of.Given as goal

abbrev pub invariant-members : goal.invariant-members
invariant-members l = (r : ℕ) → is_member l.set r ≡ first_bits l.low (bit_of l.row) r

abbrev pub decreases-members : goal.decreases-members
decreases-members l = length l.row - l.low
