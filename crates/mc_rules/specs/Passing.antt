-- What holds of a command and of one before it that it passes in a valid list.
use Rattle.std.specs.Prelude.{⊤}
use Rattle.mc_model.specs.Pattern.{Command, Prep, Ent, Meas}
use Rattle.mc_model.specs.Alike.{Disjoint}

-- a preparation, or an entangling behind a measurement, has no operand of the command before it
abbrev pub MayPass : Command → Command → Type 0
MayPass c (Prep r) = Disjoint c (Prep r)
MayPass (Meas i a s t) (Ent j k) = Disjoint (Meas i a s t) (Ent j k)
MayPass c d = ⊤
