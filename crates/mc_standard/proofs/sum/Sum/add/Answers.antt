use Rattle.std.proofs.Common.{◌∙◌, ap, Bool}
use Rattle.mc_model.specs.Bits.{◌⊻◌}
use Rattle.mc_standard.proofs.SumBits.{sum_with_signal, different}
use Rattle.mc_standard.proofs.sum.Sum.add.Goals as goal

pub returns-clause-sum : goal.returns-clause-sum
returns-clause-sum c =
    let members = c.members.ensures.members in
    rw (← c.self.view_is)
    (sum_with_signal c.self.inside.words c.flip_all.new.words c.self.inside.constant _ c.args.s.now
    c.members.ensures.rising
    (rw members at c.flip_all.ensures.small)
    (rw members at c.flip_all.ensures.bits)
    (different c.self.inside.constant c.constant.result
    ∙ ap (λ (b : Bool). c.self.inside.constant ⊻ b) c.constant.ensures))
