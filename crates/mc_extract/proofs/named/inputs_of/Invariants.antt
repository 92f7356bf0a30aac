use Rattle.std.proofs.Common.{◌≡◌, map}
use Rattle.mc_model.specs.Numbers.{numbers_from}
use Rattle.mc_extract.specs.Written.{name_at}
use Rattle.mc_extract.proofs.named.inputs_of.Given as goal

abbrev pub invariant-inputs : goal.invariant-inputs
invariant-inputs g l = l.names ≡ map (name_at l.g) (numbers_from 0 l.v)
