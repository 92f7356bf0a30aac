use Rattle.std.proofs.Common.{refl}
use Rattle.mc_model.specs.Derivation.{turned}
use Rattle.mc_trace.proofs.FittingLines.{no_turn}
use Rattle.mc_trace.proofs.fitting.turn.Goals as goal

pub returns-in_default : goal.returns-in_default
returns-in_default g c = λ new r. no_turn c.args.c.now new c.in_default.not-Ent r

pub returns-in-Ent : goal.returns-in-Ent
returns-in-Ent g c = (refl, rw c.in-Ent.is turned)
