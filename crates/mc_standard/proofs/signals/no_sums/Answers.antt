use Rattle.std.proofs.Common.{[], ◌∷◌, arith}
use Rattle.std.proofs.lemmas.List.{length-append}
use Rattle.mc_model.specs.Signals.{no_signal}
use Rattle.mc_standard.proofs.RunningPass.{still_none}
use Rattle.mc_standard.proofs.signals.no_sums.Goals as goal

pub qubits-preserved : goal.qubits-preserved
qubits-preserved c =
    let long = c.qubits.invariant.0 in
    let sum = length-append c.qubits.sums.items (no_signal ∷ []) in
    rw (c.in_ok-append.ensures, c.new.ensures)
    (omega arith, still_none c.qubits.sums.items c.qubits.invariant.1)
