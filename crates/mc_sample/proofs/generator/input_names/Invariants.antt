use Rattle.std.proofs.Common.{◌≡◌, map}
use Rattle.mc_model.specs.Numbers.{numbers_from}
use Rattle.mc_sample.specs.Generator.{wire_name}
use Rattle.mc_sample.proofs.generator.input_names.Given as goal

abbrev pub invariant-inputs : goal.invariant-inputs
invariant-inputs l = l.names ≡ map wire_name (numbers_from 0 l.v)
