use Rattle.std.proofs.Common.{false, [], ◌∷◌, refl}
use Rattle.mc_model.specs.Signals.{no_signal}
use Rattle.mc_standard.proofs.SumBits.{summed_by, has_zeros}
use Rattle.mc_standard.proofs.sum.Sum.new.Goals as goal

pub returns : goal.returns
returns c = summed_by (0 ∷ 0 ∷ 0 ∷ 0 ∷ []) false no_signal tt has_zeros refl
