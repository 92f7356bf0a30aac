use Rattle.std.proofs.Common.{sym, ◌∙◌, refl}
use Rattle.mc_standard.proofs.SumBits.{summed_by}
use Rattle.mc_standard.proofs.sum.Sum.signal.Goals as goal

pub returns : goal.returns
returns c =
    c.signal_with.ensures.signal
    ∙ sym (summed_by c.self.inside.words c.self.inside.constant
    (record { members = c.in_ok-members.members; constant = c.self.inside.constant })
    c.signal_with.ensures.rising c.in_ok-members.ensures refl)
    ∙ c.self.view_is
