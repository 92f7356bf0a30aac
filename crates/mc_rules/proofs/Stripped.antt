-- A list of commands without its corrections: each measurement takes the signals that are carried at
-- its qubit.
use Rattle.std.specs.Prelude.{ℕ, ◌<◌, List, [], ◌∷◌, ⊤}
use Rattle.mc_model.specs.Signals.{no_signal, signal_sum, Signals}
use Rattle.mc_model.specs.Pattern.{Command, Prep, Ent, Meas, FixX, FixZ}
use Rattle.mc_model.proofs.SignalLemmas.{reset}
use Rattle.mc_rules.specs.OnePass.{joined, handed}

unfoldable pub stripped : Signals → Signals → List Command → List Command
stripped xs zs [] = []
stripped xs zs (Prep q ∷ cs) = Prep q ∷ stripped xs zs cs
stripped xs zs (Ent i j ∷ cs) = Ent i j ∷ stripped xs (handed xs zs i j) cs
stripped xs zs (FixX q s ∷ cs) = stripped (joined xs q s) zs cs
stripped xs zs (FixZ q s ∷ cs) = stripped xs (joined zs q s) cs
stripped xs zs (Meas i a s t ∷ cs) =
    Meas i a (signal_sum s (xs i)) (signal_sum t (zs i)) ∷ stripped (reset xs i no_signal)
    (reset zs i no_signal) cs

-- each operand is below `n`
abbrev pub OperandsFit : ℕ → List Command → Type 0
OperandsFit n [] = ⊤
OperandsFit n (Prep q ∷ cs) = OperandsFit n cs
OperandsFit n (Ent i j ∷ cs) = (i < n) × (j < n) × OperandsFit n cs
OperandsFit n (FixX q s ∷ cs) = (q < n) × OperandsFit n cs
OperandsFit n (FixZ q s ∷ cs) = (q < n) × OperandsFit n cs
OperandsFit n (Meas i a s t ∷ cs) = (i < n) × OperandsFit n cs
