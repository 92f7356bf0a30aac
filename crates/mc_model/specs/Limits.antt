-- The limits of documents and of runs.
use Rattle.std.specs.Prelude.{ℕ}

-- the most bytes of an input
abbrev pub most_bytes : ℕ
most_bytes = 8388608

-- the most names of a document
abbrev pub most_qubits : ℕ
most_qubits = 256

-- the most gates of a circuit
abbrev pub most_gates : ℕ
most_gates = 32768

-- the most commands of a pattern
abbrev pub most_commands : ℕ
most_commands = 262144

-- the greatest size of a run: qubits, inputs and, for all branches, measured qubits
abbrev pub most_run_size : ℕ
most_run_size = 16

-- the most `J` gates of a circuit that is run
abbrev pub most_run_turns : ℕ
most_run_turns = 60

-- the most commands of a pattern that is run
abbrev pub most_run_commands : ℕ
most_run_commands = 256
