-- The limits of a pattern.
use Rattle.std.specs.Prelude.{ℕ, nat_lt, if◌then◌else◌, Option, None, Some, length}
use Rattle.mc_model.specs.Limits.{most_qubits, most_commands}
use Rattle.mc_model.specs.Pattern.{Pattern}

-- the number of the first limit that is passed and what passes it: 2, the qubits pass 256; 3, the
-- commands pass 262,144
abbrev pub first_limit : ℕ → ℕ → Option (ℕ × ℕ)
first_limit qubits commands =
    if nat_lt most_qubits qubits then Some (2, qubits)
    else (if nat_lt most_commands commands then Some (3, commands) else None)

abbrev pub pattern_limit : Pattern → Option (ℕ × ℕ)
pattern_limit p = first_limit (length p.names) (length p.commands)
