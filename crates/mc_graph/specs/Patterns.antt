-- Patterns that are made from a graph.
use Rattle.std.specs.Prelude.{List, ◌++◌}
use Rattle.mc_model.specs.Pattern.{Command, Pattern}
use Rattle.mc_model.specs.Graph.{OpenGraph, fixed_corrections}

-- the pattern of commands with the fixed corrections behind them
abbrev pub pattern_with : OpenGraph → List Command → Pattern
pattern_with g cs = record {
  names = g.names;
  inputs = g.inputs;
  outputs = g.outputs;
  commands = cs ++ fixed_corrections g;
}
