-- The pass with two running signals for each qubit comes to the parts of the standard form, signal by
-- signal.
use Rattle.std.proofs.Common.{◌≡◌, ℕ, zero, suc, ◌+◌, true, false, List, [], ◌∷◌, ◌++◌, refl, sym}
use Rattle.std.proofs.Common.{◌∙◌, ap₂, arith}
use Rattle.std.proofs.lemmas.Bool.{cases_Bool}
use mathlib.Core.Logic.{inl, inr}
use Rattle.mc_model.specs.Bits.{Bits, parity}
use Rattle.mc_model.specs.Signals.{Signal, no_signal, signal_sum, value, IsRising, Signals}
use Rattle.mc_model.specs.Pattern.{Command, Prep, Ent, Meas, FixX, FixZ}
use Rattle.mc_model.specs.Valid.{prepared, measured}
use Rattle.mc_model.specs.StandardForm.{is_edge, fix_x, fix_z, corrections_below, preparations_of}
use Rattle.mc_model.specs.StandardForm.{first_sum, second_sum, standard_commands}
use Rattle.mc_model.specs.Numbers.{pairs_below}
use Rattle.mc_model.proofs.BitLemmas.{xor_comm}
use Rattle.mc_model.proofs.SignalLemmas.{value-sum, toggled_all_rising}
use Rattle.mc_model.proofs.SignalValues.{same_signals}
use Rattle.mc_model.proofs.ValidInPlace.{InPlace, valid_in_place}
use Rattle.mc_rules.specs.OnePass.{none_carried, handed_out, joined, handed, measured_with, carried}
use Rattle.mc_rules.specs.OnePass.{OnePass}
use Rattle.mc_rules.proofs.Stripped.{stripped}
use Rattle.mc_rules.proofs.CorrectionFrames.{values}
use Rattle.mc_rules.proofs.PlaceSums.{value-first_sum, value-second_sum}
use Rattle.mc_rules.proofs.RunningSums.{AllRising, measurements_of, first_rising, second_rising}
use Rattle.mc_rules.proofs.RunningSums.{reset_rising, next_x, next_z, next_x_rising, next_z_rising}
use Rattle.mc_rules.proofs.RunningSums.{carried_x, carried_z, carried_gone, carried_rising}
use Rattle.mc_rules.proofs.StandardAlike.{measured_form}

-- ---- measurements

sum_comm : (s t : Signal) → IsRising s.members → IsRising t.members →
    signal_sum s t ≡ signal_sum t s
sum_comm s t rs rt =
    same_signals (signal_sum s t) (signal_sum t s)
    (toggled_all_rising s.members t.members rt) (toggled_all_rising t.members s.members rs)
    (λ o. value-sum s t o ∙ xor_comm (value s o) (value t o) ∙ sym (value-sum t s o))

measured_stripped : (n : ℕ) (xs zs : Signals) (cs : List Command) → InPlace n cs → AllRising xs →
    AllRising zs → measurements_of (stripped xs zs cs) ≡ measured_with xs zs cs
unfolding measurements_of stripped measured_with next_x next_z
measured_stripped n xs zs [] p rx rz = refl
measured_stripped n xs zs (Prep q ∷ cs) p rx rz = measured_stripped n xs zs cs p.2 rx rz
measured_stripped n xs zs (Ent i j ∷ cs) p rx rz =
    measured_stripped n xs (handed xs zs i j) cs p.2 rx
    (next_z_rising n xs zs (Ent i j) p.0 rx rz)
measured_stripped n xs zs (FixX q s ∷ cs) p rx rz =
    measured_stripped n (joined xs q s) zs cs p.2 (next_x_rising n xs (FixX q s) p.0 rx) rz
measured_stripped n xs zs (FixZ q s ∷ cs) p rx rz =
    measured_stripped n xs (joined zs q s) cs p.2 rx (next_z_rising n xs zs (FixZ q s) p.0 rx rz)
measured_stripped n xs zs (Meas i a s t ∷ cs) p rx rz =
    ap₂ (λ (c : Command) (rest : List Command). c ∷ rest)
    (ap₂ (λ (u v : Signal). Meas i a u v) (sum_comm s (xs i) p.0.1 (rx i))
    (sum_comm t (zs i) p.0.2 (rz i)))
    (measured_stripped n (handed_out xs i) (handed_out zs i) cs p.2
    (reset_rising xs i no_signal rx tt) (reset_rising zs i no_signal rz tt))

-- ---- corrections

corrections_same : (gone : Bits) (ss ts us ws : Signals) (m : ℕ) →
    ((k : ℕ) → gone k ≡ false → (ss k ≡ us k) × (ts k ≡ ws k)) →
    ((k : ℕ) → gone k ≡ true → (us k ≡ no_signal) × (ws k ≡ no_signal)) →
    corrections_below gone ss ts m ≡ corrections_below (λ q. false) us ws m
unfolding corrections_below
corrections_same gone ss ts us ws zero h g = refl
corrections_same gone ss ts us ws (suc q) h g =
    ap₂ (λ (xs ys : List Command). xs ++ ys) (corrections_same gone ss ts us ws q h g)
    (elim (cases_Bool (gone q)) [
      | inl e ↦
          rw e
          (sym (ap₂ (λ (u v : Signal). fix_x q u ++ fix_z q v) (g q e).0 (g q e).1))
      | inr e ↦ rw e (ap₂ (λ (u v : Signal). fix_x q u ++ fix_z q v) (h q e).0 (h q e).1)
    ])

first_carried : (n : ℕ) (cs : List Command) (k : ℕ) → InPlace n cs → measured cs k ≡ false →
    first_sum cs k ≡ (carried none_carried none_carried cs).0 k
unfolding value parity
first_carried n cs k p m =
    same_signals (first_sum cs k) ((carried none_carried none_carried cs).0 k)
    (first_rising cs k)
    ((carried_rising n none_carried none_carried cs p (λ q. tt) (λ q. tt)).0 k)
    (λ o. value-first_sum o k cs ∙ sym (carried_x o none_carried none_carried cs k m))

second_carried : (n : ℕ) (cs : List Command) (k : ℕ) → InPlace n cs → measured cs k ≡ false →
    second_sum cs k ≡ (carried none_carried none_carried cs).1 k
unfolding values value parity
second_carried n cs k p m =
    same_signals (second_sum cs k) ((carried none_carried none_carried cs).1 k)
    (second_rising cs k)
    ((carried_rising n none_carried none_carried cs p (λ q. tt) (λ q. tt)).1 k)
    (λ o. value-second_sum o k cs ∙ sym (carried_z o n none_carried none_carried cs k p m))

none_value : (o : Bits) → value no_signal o ≡ false
unfolding value parity
none_value o = refl

-- nothing is carried at the end for a measured qubit
none_left : (n : ℕ) (cs : List Command) (k : ℕ) → InPlace n cs → measured cs k ≡ true →
    ((carried none_carried none_carried cs).0 k ≡ no_signal)
    × ((carried none_carried none_carried cs).1 k ≡ no_signal)
none_left n cs k p m =
    let rising = carried_rising n none_carried none_carried cs p (λ q. tt) (λ q. tt) in (
      same_signals ((carried none_carried none_carried cs).0 k) no_signal (rising.0 k) tt
          (λ o. (carried_gone o n none_carried none_carried cs k p m).0 ∙ sym (none_value o)),
      same_signals ((carried none_carried none_carried cs).1 k) no_signal (rising.1 k) tt
          (λ o. (carried_gone o n none_carried none_carried cs k p m).1 ∙ sym (none_value o)),
    )

-- ---- the whole

pub one_pass : OnePass
unfolding standard_commands
one_pass inputs cs v =
    let n : ℕ = inputs + prepared cs in
    let p : InPlace n cs = valid_in_place inputs n [] cs v (omega arith) in
    ap₂ (λ (ms fs : List Command). preparations_of cs ++
    (pairs_below Ent (is_edge cs) n n ++ (ms ++ fs)))
    (sym (measured_form n cs p)
    ∙ measured_stripped n none_carried none_carried cs p (λ q. tt) (λ q. tt))
    (corrections_same (measured cs) (first_sum cs) (second_sum cs) _ _ n
    (λ k e. (first_carried n cs k p e, second_carried n cs k p e))
    (λ k e. none_left n cs k p e))
