-- The standard form in one pass: two running signals for each qubit, the sums of its corrections by
-- `X` and by `Z` so far.
use Rattle.std.specs.Prelude.{◌≡◌, ℕ, ◌+◌, false, cond, nat_eq, List, [], ◌∷◌, ◌++◌}
use Rattle.mc_model.specs.Numbers.{pairs_below}
use Rattle.mc_model.specs.Signals.{Signal, no_signal, signal_sum, Signals}
use Rattle.mc_model.specs.Pattern.{Command, Prep, Ent, Meas, FixX, FixZ}
use Rattle.mc_model.specs.Valid.{prepared, IsValid}
use Rattle.mc_model.specs.StandardForm.{preparations_of, is_edge, corrections_below}
use Rattle.mc_model.specs.StandardForm.{standard_commands}

-- no signals so far
abbrev pub none_carried : Signals
none_carried = λ q. no_signal

-- a qubit's signal with one added; without it
abbrev pub joined : Signals → ℕ → Signal → Signals
joined xs q s = λ k. cond (nat_eq k q) (signal_sum (xs q) s) (xs k)

abbrev pub handed_out : Signals → ℕ → Signals
handed_out xs q = λ k. cond (nat_eq k q) no_signal (xs k)

-- at an entangling the `X` signal of each operand is added to the other's `Z` signal
abbrev pub handed : Signals → Signals → ℕ → ℕ → Signals
handed xs zs i j = joined (joined zs i (xs j)) j (xs i)

-- the measurements, each with the signals that are carried at its qubit
unfoldable pub measured_with : Signals → Signals → List Command → List Command
measured_with xs zs [] = []
measured_with xs zs (Prep q ∷ cs) = measured_with xs zs cs
measured_with xs zs (Ent i j ∷ cs) = measured_with xs (handed xs zs i j) cs
measured_with xs zs (FixX q s ∷ cs) = measured_with (joined xs q s) zs cs
measured_with xs zs (FixZ q s ∷ cs) = measured_with xs (joined zs q s) cs
measured_with xs zs (Meas i a s t ∷ cs) =
    Meas i a (signal_sum (xs i) s) (signal_sum (zs i) t)
    ∷ measured_with (handed_out xs i) (handed_out zs i) cs

-- the signals that are carried at the end
unfoldable pub carried : Signals → Signals → List Command → Signals × Signals
carried xs zs [] = (xs, zs)
carried xs zs (Prep q ∷ cs) = carried xs zs cs
carried xs zs (Ent i j ∷ cs) = carried xs (handed xs zs i j) cs
carried xs zs (FixX q s ∷ cs) = carried (joined xs q s) zs cs
carried xs zs (FixZ q s ∷ cs) = carried xs (joined zs q s) cs
carried xs zs (Meas i a s t ∷ cs) = carried (handed_out xs i) (handed_out zs i) cs

-- the pass comes to the standard form
abbrev pub OnePass : Type 0
OnePass = (inputs : ℕ) (cs : List Command) → IsValid inputs cs →
    standard_commands inputs cs
    ≡ preparations_of cs
    ++ (pairs_below Ent (is_edge cs) (inputs + prepared cs) (inputs + prepared cs)
    ++ (measured_with none_carried none_carried cs
    ++ corrections_below (λ q. false) (carried none_carried none_carried cs).0
    (carried none_carried none_carried cs).1 (inputs + prepared cs)))
