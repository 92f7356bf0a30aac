-- A sample circuit that is being built.
use Rattle.std.specs.Prelude.{ℕ, List, [], map}
use Rattle.mc_model.specs.Numbers.{numbers_from}
use Rattle.mc_model.specs.Pattern.{Gate, Circuit}
use Rattle.mc_sample.specs.Generator.{wire_name}

-- the first `n` wires, of which four are inputs, and gates on them
abbrev pub wired : ℕ → List Gate → Circuit
wired n gates = record {
  names = map wire_name (numbers_from 0 n);
  inputs = 4;
  outputs = [];
  gates = gates;
}
