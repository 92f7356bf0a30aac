use Rattle.std.proofs.Common.{◌≡◌, ◌∙◌, ap, subst}
use Rattle.std.specs.Prelude.{IfOk, OnOk}
use Rattle.mc_model.specs.Signals.{Signal, Signals}
use Rattle.mc_rules.specs.OnePass.{handed_out}
use Rattle.mc_standard.specs.Running.{signals_of}
use Rattle.mc_standard.proofs.RunningPass.{handed_sum, handed_rest}
use Rattle.mc_standard.proofs.signals.take_with.Goals as goal

pub returns-clause-sum : goal.returns-clause-sum
returns-clause-sum c =
    let xs : Signals = signals_of c.args.sums.now.items in
    subst (λ (s : Signal). IfOk c.take.result (λ (sum : Signal). sum ≡ s))
    (ap (λ (ys : Signals). ys c.args.q) c.add.ensures.sum ∙ handed_sum xs c.args.q c.args.s.now)
    c.take.ensures.signal

pub returns-clause-rest : goal.returns-clause-rest
returns-clause-rest c =
    let xs : Signals = signals_of c.args.sums.now.items in
    subst (λ (ys : Signals). OnOk c.take.result (signals_of c.take.new.sums.items ≡ ys))
    (ap (λ (ys : Signals). handed_out ys c.args.q) c.add.ensures.sum
    ∙ handed_rest xs c.args.q c.args.s.now)
    c.take.ensures.rest
