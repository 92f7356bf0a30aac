use Rattle.mc_derivations.proofs.JudgedOnce.{judged_once}
use Rattle.mc_derivations.proofs.laws.traces_are_judged_once.Goals as goal

pub returns : goal.returns
returns c = judged_once
