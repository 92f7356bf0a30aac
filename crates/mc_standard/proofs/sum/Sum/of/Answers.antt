use Rattle.std.proofs.Common.{◌∙◌, ap}
use Rattle.mc_model.specs.Signals.{Signal, signal_sum, toggled_all}
use Rattle.mc_standard.proofs.sum.Sum.of.Goals as goal

pub returns-clause-sum : goal.returns-clause-sum
unfolding toggled_all
returns-clause-sum c =
    c.add.ensures.sum ∙ ap (λ (s : Signal). signal_sum s c.args.s.now) c.new-sum.ensures
