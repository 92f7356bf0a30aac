use Rattle.std.proofs.Common.{◌≡◌, ◌∙◌, ap, subst}
use Rattle.mc_model.specs.Ring.{minus}
use Rattle.mc_model.specs.Height.{IsInRange}
use Rattle.mc_cyclo.proofs.Elements.{IsCyclo-minus}
use Rattle.mc_cyclo.proofs.cyclo.CycloRing.neg.Goals as goal

pub invariant_of-result : goal.invariant_of-result
invariant_of-result g c = IsCyclo-minus g.row.H _ _ c.negate.ensures c.self.invariant

pub returns : goal.returns
returns g c =
    let is : c.negate.new.coordinates ≡ minus c.args.self.now =
    c.negate.ensures ∙ ap minus c.self.view_is in
    (is, subst IsInRange is (IsCyclo-minus g.row.H _ _ c.negate.ensures c.self.invariant).in_range)
