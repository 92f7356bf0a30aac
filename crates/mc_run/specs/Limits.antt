-- The limits of a run.
use Rattle.std.specs.Prelude.{ℕ, ◌+◌, nat_lt, if◌then◌else◌, Option, None, Some, length}
use Rattle.mc_model.specs.Limits.{most_run_size, most_run_turns, most_run_commands}
use Rattle.mc_model.specs.Pattern.{Circuit, Pattern, wires}
use Rattle.mc_model.specs.Amplitude.{j_count}
use Rattle.mc_pattern.specs.Patterns.{measured_count}

-- the number of the first limit that is passed and what passes it: 4, the size passes 16; 5, the
-- count passes `most`
abbrev pub first_limit : ℕ → ℕ → ℕ → Option (ℕ × ℕ)
first_limit size most count =
    if nat_lt most_run_size size then Some (4, size)
    else (if nat_lt most count then Some (5, count) else None)

-- wires and inputs; at most 60 `J` gates
abbrev pub circuit_limit : Circuit → Option (ℕ × ℕ)
circuit_limit c = first_limit (wires c + c.inputs) most_run_turns (j_count c.gates)

-- qubits and inputs; at most 256 commands
abbrev pub branch_limit : Pattern → Option (ℕ × ℕ)
branch_limit p = first_limit (length p.names + p.inputs) most_run_commands (length p.commands)

-- qubits, inputs and measured qubits; at most 256 commands
abbrev pub all_limit : Pattern → Option (ℕ × ℕ)
all_limit p =
    first_limit (length p.names + p.inputs + measured_count p) most_run_commands (length p.commands)
