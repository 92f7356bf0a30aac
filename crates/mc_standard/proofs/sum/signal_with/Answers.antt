use Rattle.std.proofs.Common.{Bool, ap, sym, ◌∙◌}
use Rattle.mc_model.specs.Signals.{toggled_all, Signal, signal_sum, one_signal}
use Rattle.mc_standard.proofs.sum.signal_with.Goals as goal

pub returns-then-constant-clause-signal : goal.returns-then-constant-clause-signal
unfolding toggled_all
returns-then-constant-clause-signal c =
    c.flip.ensures.signal
    ∙ ap (λ (s : Signal). signal_sum one_signal s) c.of-signal.ensures
    ∙ ap (λ (b : Bool). record { members = c.args.members; constant = b }) (sym c.if-constant.true)
