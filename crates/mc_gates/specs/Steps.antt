-- Lowering operation by operation, with a list of the wires that the names stand for.
use Rattle.std.specs.Prelude.{ℕ, List, ◌++◌, slice_index_or}
use Rattle.mc_model.specs.Pattern.{Circuit, Gate}

-- behind the end of the list each name stands for its own wire
abbrev pub wire_at : List ℕ → ℕ → ℕ
wire_at at v = slice_index_or at v v

abbrev pub with_gates : Circuit → List Gate → Circuit
with_gates c gates = record c { gates = c.gates ++ gates }
