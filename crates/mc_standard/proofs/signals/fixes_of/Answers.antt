use Rattle.std.proofs.Common.{◌++◌, List, map, sym, ◌∙◌, ap, ap₂, append_assoc, arith}
use Rattle.mc_model.specs.Pattern.{Command}
use Rattle.mc_model.specs.Signals.{Signal, Signals}
use Rattle.mc_model.specs.StandardForm.{fix_x, fix_z}
use Rattle.mc_standard.specs.Plain.{plain_fix}
use Rattle.mc_standard.specs.Running.{signals_of}
use Rattle.mc_standard.proofs.RunningPass.{corrections-none, corrections-next, signal_read}
use Rattle.mc_standard.proofs.signals.fixes_of.Goals as goal

pub qubits-init : goal.qubits-init
qubits-init c = ap (map plain_fix) c.new-fixes.ensures.items ∙ sym (corrections-none _ _ _)

pub qubits-preserved : goal.qubits-preserved
qubits-preserved c =
    let q = c.qubits.q in
    let ss : Signals = signals_of c.args.xs.now in
    let ts : Signals = signals_of c.args.zs.now in
    let first = c.requires.first in
    let second = c.requires.second in
    let below = c.qubits-test.true in
    let x =
    c.in_ok-signal.ensures
    ∙ signal_read c.args.xs.now q c.index-xs-q.result (omega arith) c.index-xs-q.is in
    let z =
    c.in_ok-signal-2.ensures
    ∙ signal_read c.args.zs.now q c.index-zs-q.result (omega arith) c.index-zs-q.is in
    c.in_ok-push_z.ensures
    ∙ ap₂ (λ (ys : List Command) (s : Signal). ys ++ fix_z q s)
    (c.in_ok-push_x.ensures
    ∙ ap₂ (λ (ys : List Command) (s : Signal). ys ++ fix_x q s) c.qubits.invariant x)
    z
    ∙ append_assoc _ (fix_x q (ss q)) (fix_z q (ts q))
    ∙ sym (corrections-next ss ts q)
