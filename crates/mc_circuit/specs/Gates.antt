-- The gates of the code as those of the definitions.
use Rattle.std.specs.Prelude.{ℕ}
use Rattle.mc_circuit.specs.declared.gate.Gate.{Gate}
use Rattle.mc_circuit.specs.declared.gate.Gate.TheVariants as gate
use Rattle.mc_model.specs.Pattern as plain

abbrev pub plain_gate : {h : ℕ} → Gate h → plain.Gate
plain_gate (gate.J wire angle) = plain.J wire angle
plain_gate (gate.Cz a b) = plain.CZ a b
