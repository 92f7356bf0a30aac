use Rattle.std.proofs.Common.{Bool, sym, ap, ◌∙◌}
use Rattle.mc_model.specs.Signals.{Signal, one_signal, signal_sum, toggled_all}
use Rattle.mc_change_text.proofs.kept.signal_of.Goals as goal

pub returns-then-constant : goal.returns-then-constant
unfolding toggled_all
returns-then-constant c =
    let with_constant : Bool → Signal = λ t. record { members = c.args.members; constant = t } in
    c.flip.ensures.signal ∙ ap (signal_sum one_signal) c.of-signal.ensures
    ∙ ap with_constant (sym c.if-constant.true)
