-- The sample circuits: gates by the numbers of a linear congruential generator.
use Rattle.std.specs.Prelude.{ℕ, zero, suc, ◌+◌, ◌*◌, ◌/◌, ◌%◌, List, [], ◌∷◌, ◌++◌, map, codes}
use Rattle.mc_model.specs.Numbers.{numbers_from}
use Rattle.mc_model.specs.Names.{Name}
use Rattle.mc_model.specs.Pattern.{Gate, J, CZ, Circuit}

-- the number behind a number
abbrev pub next_number : ℕ → ℕ
next_number x = (x * 1103515245 + 12345) % 2147483648

-- what a number says: the wire and the angle of a `J`, and the other wire of a CZ
abbrev pub wire_by : ℕ → ℕ
wire_by x = x / 65536 % 8

abbrev pub angle_by : ℕ → ℕ
angle_by x = x / 524288 % 8

abbrev pub other_by : ℕ → ℕ
other_by x = (wire_by x + 1 + x / 4194304 % 7) % 8

abbrev pub gates_by : ℕ → List Gate
gates_by x = J (wire_by x) (angle_by x) ∷ CZ (wire_by x) (other_by x) ∷ []

-- a `J` and a CZ by each of so many numbers behind `x`
unfoldable pub gates_behind : ℕ → ℕ → List Gate
gates_behind x zero = []
gates_behind x (suc n) = gates_by (next_number x) ++ gates_behind (next_number x) n

-- `w` and a digit
abbrev pub wire_name : ℕ → Name
wire_name v = codes "w" ++ (48 + v) ∷ []

-- eight wires, of which four are inputs, and a `J` and a CZ by each of the `n` numbers behind `n`
unfoldable pub sample_circuit : ℕ → Circuit
sample_circuit n = record {
  names = map wire_name (numbers_from 0 8);
  inputs = 4;
  outputs = numbers_from 0 8;
  gates = gates_behind n n;
}
