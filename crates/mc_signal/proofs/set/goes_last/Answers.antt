use Rattle.std.proofs.Common.{arith}
use Rattle.std.proofs.lemmas.Bool.{ltb-true}
use Rattle.mc_signal.proofs.Rising.{toggled-last}
use Rattle.mc_signal.proofs.set.goes_last.Goals as goal

pub returns-in-empty : goal.returns-in-empty
returns-in-empty c member =
    toggled-last c.args.q c.args.members.now c.requires (λ some. absurd (omega arith))

pub returns-in-len1-up : goal.returns-in-len1-up
returns-in-len1-up c last =
    toggled-last c.args.q c.args.members.now c.requires (λ some. ltb-true _ _ last)
