use Rattle.mc_cyclo.proofs.Elements.{IsCyclo-rotations}
use Rattle.mc_cyclo.proofs.cyclo.CycloPhaseRing.turn.Goals as goal

pub invariant_of-result : goal.invariant_of-result
invariant_of-result g c =
    IsCyclo-rotations g.row.H c.args.k _ _ c.turn.ensures c.self.invariant
