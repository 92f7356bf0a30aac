use Rattle.std.proofs.Common.{◌≡◌, false, map}
use Rattle.mc_model.specs.StandardForm.{corrections_below}
use Rattle.mc_standard.specs.Plain.{plain_fix}
use Rattle.mc_standard.specs.Running.{signals_of}
use Rattle.mc_standard.proofs.signals.fixes_of.Given as goal

abbrev pub invariant-qubits : goal.invariant-qubits
invariant-qubits l =
    map plain_fix l.fixes.items
    ≡ corrections_below (λ q. false) (signals_of l.xs) (signals_of l.zs) l.q
