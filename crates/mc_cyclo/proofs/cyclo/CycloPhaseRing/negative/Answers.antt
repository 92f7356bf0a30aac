use Rattle.mc_cyclo.proofs.Elements.{IsCyclo-minus}
use Rattle.mc_cyclo.proofs.cyclo.CycloPhaseRing.negative.Goals as goal

pub invariant_of-result : goal.invariant_of-result
invariant_of-result g c = IsCyclo-minus g.row.H _ _ c.negate.ensures c.self.invariant
