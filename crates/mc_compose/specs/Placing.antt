-- How the code places the qubits of a part, and what it asks of them.
use Rattle.std.specs.Prelude.{ℕ, ◌+◌, ◌-◌, cond, nat_lt, List, length, All, slice_index_or}
use Rattle.mc_model.specs.Pattern.{Command, Prep, Ent, Meas, FixX, FixZ}

-- the inputs at the listed qubits, the others in a row
abbrev pub placed_in_row : List ℕ → ℕ → ℕ → ℕ
placed_in_row inputs others q =
    cond (nat_lt q (length inputs)) (slice_index_or inputs q 0) (others + (q - length inputs))

-- each qubit of the command is such
abbrev pub IsOn : (ℕ → Type 0) → Command → Type 0
IsOn P (Prep q) = P q
IsOn P (Ent q r) = P q × P r
IsOn P (Meas q a s t) = P q × All P s.members × All P t.members
IsOn P (FixX q s) = P q × All P s.members
IsOn P (FixZ q s) = P q × All P s.members
